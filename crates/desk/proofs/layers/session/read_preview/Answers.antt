use Rattle.std.proofs.Common.{◌≡◌, ℕ, ◌+◌, List, length, map, refl, sym, ap, subst, ◌∙◌, arith}
use Rattle.desk.proofs.layers.Common.{length-map, RANKS, Aim, Shape, instance_of, Pair, IsBest, profile, CodePair, codes_of, profile_by_codes, IsBestByCodes, aim_of, last_round, round_instance, profile_of}
use Rattle.office_model.specs.declared.request.Reply.TheVariants as reply
use Rattle.desk.proofs.layers.SameRound.{choices_same, best_same, profile_by}
use Rattle.office_model.proofs.Numbered.{listed}
use Rattle.spa.proofs.ByCodes.{best_to_codes, same_profiles}
use Rattle.desk.proofs.layers.session.read_preview.Goals as goal

pub returns : goal.returns
returns c = record {
  made = λ o mirrors.
      let l = instance_of mirrors.named in
      let M : List Pair = c.size.ensures.matched.0 in
      let aim : Aim = aim_of o (last_round o) in
      let best : IsBest aim mirrors.named.shape M = subst (λ (x : Shape). IsBest aim x M) (sym mirrors.here) (subst (λ (aim : Aim). IsBest aim c.args.session.now.shape M) mirrors.aim c.size.ensures.matched.1) in
      let N : List CodePair = map (codes_of mirrors.named) M in
      let by_codes : IsBestByCodes aim (round_instance o) N = best_same aim l (round_instance o) mirrors.same N (best_to_codes mirrors.named mirrors.fit aim M best) in
      let size : c.size.result ≡ length N = c.size.ensures.size M c.size.ensures.matched.1 ∙ sym (length-map M (codes_of mirrors.named)) in
      let ranks : (k : ℕ) → profile mirrors.named.shape M k ≡ profile_by_codes (round_instance o) N k = λ k.
      sym (same_profiles mirrors.named mirrors.fit M best.matching k) ∙ ap (λ (f : List ℕ → List (List ℕ)). profile_by f N k) (choices_same l (round_instance o) mirrors.same) in
      let numbers : c.profile.result ≡ profile_of (round_instance o) N =
      listed c.profile.result (profile_by_codes (round_instance o) N) 0 RANKS c.profile.ensures.whole (λ k s.
      c.profile.ensures.profile M c.size.ensures.matched.1 k s ∙ ap (λ (x : Shape). profile x M k) (sym mirrors.here) ∙ ranks k ∙ ap (profile_by_codes (round_instance o) N) (let z : k ≡ 0 + k = omega arith in z)) in
      (N, record { is_open = mirrors.is_open; matching = by_codes.matching }, by_codes, (λ i. reply.Preview (size i) (numbers i)), refl);
}
