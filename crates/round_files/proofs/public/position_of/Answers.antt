use Rattle.std.proofs.Common.{◌≡◌, ℕ, ◌+◌, ◌<◌, List, [], length, get_or, slice_get, Some, sym, ◌∙◌, arith}
use Rattle.std.proofs.lemmas.List.{get_or_read}
use Rattle.round_files.proofs.Positions.{found_at, found_within, nowhere_more}
use Rattle.round_files.proofs.public.position_of.Goals as goal

pub returns-then-is_text : goal.returns-then-is_text
returns-then-is_text c =
    let p : ℕ = c.loop-position.position in
    let h : p < length c.args.roll.now = c.loop-position-test.true in
    found_at c.args.roll.now p [] c.args.text.now h (sym (get_or_read c.args.roll.now p c.index-roll-position.result h c.index-roll-position.is []) ∙ c.is_text.ensures.0 c.if-is_text.true)

pub loop-position-preserved : goal.loop-position-preserved
loop-position-preserved c =
    let p : ℕ = c.loop-position.position in
    let h : p < length c.args.roll.now = c.loop-position-test.true in
    nowhere_more c.args.roll.now p c.args.text.now
    (λ e. let yes = c.is_text.ensures.1 (get_or_read c.args.roll.now p c.index-roll-position.result h c.index-roll-position.is [] ∙ (found_within c.args.roll.now p [] c.args.text.now e).1) in let no = c.if-is_text.false in cc)
    c.loop-position.invariant

pub returns : goal.returns
returns c = λ p e. (let at = found_within c.args.roll.now p [] c.args.text.now e in c.loop-position.invariant p (omega (arith, at.0, c.loop-position-test.false)) e)
