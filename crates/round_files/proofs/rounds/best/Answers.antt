use Rattle.std.proofs.Common.{◌≡◌, ℕ, ◌+◌, List, Option, length, map, ap, ◌∙◌, arith, rules, string_bytes}
use Rattle.std.specs.List.{range_with_len}
use Rattle.spa.specs.declared.TheConstants.{RANKS}
use Rattle.spa.specs.Shape.{Shape}
use Rattle.spa.specs.Matching.{profile}
use Rattle.spa.specs.Matched.{pairs}
use Rattle.office_model.proofs.Numbered.{listed}
use Rattle.round_files.proofs.RankText.{in_turn}
use Rattle.round_files.proofs.rounds.best.Goals as goal

pub returns : goal.returns
returns c =
    let i : Shape = c.args.parts.now.instance.shape in
    let ks : List (Option ℕ) = c.args.parts.now.matching.places.items in
    let many : length c.profile-counts.result ≡ RANKS = search rules in
    let counts : c.profile-counts.result ≡ map (profile i (pairs i ks)) (range_with_len 0 RANKS) = listed c.profile-counts.result (profile i (pairs i ks)) 0 RANKS many
    (λ k h. (let at : k ≡ 0 + k = omega arith in c.profile-counts.ensures.profile k h ∙ ap (profile i (pairs i ks)) at)) in
    in_turn (string_bytes c.new-text.result) (string_bytes c.write.new.self) (string_bytes c.push_counts.new.out) (string_bytes c.push_str.new.self) c.size-size.result (length (pairs i ks)) c.profile-counts.result _ c.size-size.ensures.size counts
    c.new-text.ensures.bytes c.in_ok-write.ensures.bytes c.in_ok-push_counts.ensures c.in_ok-push_str.ensures.bytes
