-- Two instances of one round. What is said of matchings by codes reads an instance by what is found at a code, so the same
-- matchings are best in both.
use Rattle.std.proofs.Common.{◌≡◌, ℕ, ◌+◌, ◌≤◌, List, [], count_by, find, All, Contains, sym, subst}
use Rattle.desk.proofs.layers.Common.{◌==◌, not, pos, option_map_or, bytes_eq, RANKS, Aim, Instance, Supervisor, Student, CodePair, choices_of, IsMatchingByCodes, IsBestByCodes, IsSameRound}
use Rattle.std.specs.List.{prefix_len}
use Rattle.spa.specs.Order.{Precedes, ranks_read}
use Rattle.spa.specs.Instance.{Project}

-- the other way round
pub transformed_round : (l m : Instance) → IsSameRound l m → IsSameRound m l
transformed_round l m same = record {
  supervisors = sym same.supervisors;
  projects = sym same.projects;
  found = λ code. sym (same.found code);
  as_many = sym same.as_many;
}

-- the profile where students list these projects
abbrev pub profile_by : (List ℕ → List (List ℕ)) → List CodePair → ℕ → ℕ
profile_by choices M k = count_by (λ e. 1 + prefix_len (λ q. not (bytes_eq q e.project)) (choices e.student) == k + 1) M

module _ (l m : Instance) (same : IsSameRound l m) where
  -- each student lists the same
  pub choices_same : choices_of l ≡ choices_of m
  choices_same = λ i code. option_map_or (λ (e : Student). e.list) (same.found code i) []

  pub matching_same : (M : List CodePair) → IsMatchingByCodes l M → IsMatchingByCodes m M
  matching_same M h = record {
    listed = subst (λ (c : List ℕ → List (List ℕ)). All (λ e. Contains (c e.student) e.project) M) choices_same h.listed;
    student_once = h.student_once;
    project_within = λ p. subst (λ (ps : List Project). count_by (λ e. bytes_eq p e.project) M ≤ option_map_or (λ (e : Project). e.quota) (find (λ e. bytes_eq p e.code) ps) 0) same.projects (h.project_within p);
    supervisor_within = λ s.
        subst (λ (ss : List Supervisor). count_by (λ e. bytes_eq s (option_map_or (λ (x : Project). x.supervisor) (find (λ x. bytes_eq e.project x.code) m.projects) [])) M ≤ option_map_or (λ (e : Supervisor). e.quota) (find (λ e. bytes_eq s e.code) ss) 0) same.supervisors
        (subst (λ (ps : List Project). count_by (λ e. bytes_eq s (option_map_or (λ (x : Project). x.supervisor) (find (λ x. bytes_eq e.project x.code) ps) [])) M ≤ option_map_or (λ (e : Supervisor). e.quota) (find (λ e. bytes_eq s e.code) l.supervisors) 0) same.projects
        (h.supervisor_within s));
  }

-- a matching that is best by an aim is so in both
pub best_same : (aim : Aim) (l m : Instance) → IsSameRound l m → (M : List CodePair) → IsBestByCodes aim l M → IsBestByCodes aim m M
best_same aim l m same M h =
    let back = matching_same m l (transformed_round l m same) in
    record {
      matching = matching_same l m same M h.matching;
      largest = λ N n. h.largest N (back N n);
      first = λ N n e before. h.first N (back N n) e
          (subst (λ (c : List ℕ → List (List ℕ)). Precedes RANKS (ranks_read aim (λ k. pos (profile_by c M k))) (ranks_read aim (λ k. pos (profile_by c N k)))) (sym (choices_same l m same)) before);
    }
