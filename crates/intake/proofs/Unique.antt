-- The text of parts determines them.
use Rattle.std.proofs.Common.{◌≡◌, List, [], ◌∷◌, map, Result, Ok, Err, refl, sym, ap, ◌∙◌, subst, arith, append-nil}
use Rattle.intake.proofs.Common.{append_cancel_right, Parts, IsRoundParts, Round, Row, sections, lines_of, round_text, IsReading, IsReadBack, parts_read, nothing}
use Rattle.intake.specs.declared.round.RoundParts.{RoundParts}
use Rattle.intake.specs.declared.round.RoundFault.{RoundFault}
use Rattle.intake.specs.declared.round.RoundFault.TheVariants.{Memory, TooLarge, Line}
use Rattle.intake.proofs.Bad.{parts_back, text_pieces}
use Rattle.intake.proofs.Chain.{Reads, nothing_draft, reached, reads_rest}
use Rattle.intake.proofs.Ends.{placed}
use Rattle.intake.proofs.Sections.{fields_of, full}
use Rattle.intake.proofs.Size.{text_small}

-- parts with one text are the same
pub one_text : (p q : Parts) → IsRoundParts p → IsRoundParts q → round_text p ≡ round_text q → p ≡ q
one_text p q v w e =
    let lines : lines_of Round p ≡ lines_of Round q = append_cancel_right (lines_of Round p) (lines_of Round q) ([] ∷ []) (sym (text_pieces Round (round_text p) p v refl) ∙ text_pieces Round (round_text p) q w e) in
    let rows = sym (parts_back Round p v) ∙ ap (map fields_of) lines ∙ parts_back Round q w in
    let a = reached Round p v in
    let b = reached Round q w in
    let same : b.draft ≡ a.draft = reads_rest Round nothing a.draft b.draft (full (sections Round q)) [] (nothing_draft Round) (subst (λ (l : List Row). Reads Round nothing l a.draft) (rows ∙ sym (append-nil (full (sections Round q)))) a.reads) b.reads in
    a.same ∙ ap placed (sym same) ∙ sym b.same

-- the text of parts is read as them
pub read_back : (p : Parts) (r : Result RoundParts RoundFault) → IsRoundParts p → IsReading (round_text p) r → IsReadBack p r
read_back p (Ok r) v h = sym (one_text p (parts_read r) v h.0 h.1)
read_back p (Err Memory) v h = tt
read_back p (Err TooLarge) v h = let small = text_small p v in absurd (omega (arith, small, h))
read_back p (Err (Line n)) v h = h.1.refused p v refl
