use Rattle.std.proofs.Common.{◌≡◌, ℕ, ◌-◌, ◌<◌, Bool, List, length, take, sym, ap, subst, ◌∙◌, arith}
use Rattle.intake.proofs.Common.{Bor, length-map, pieces, draft_of, AddsLine}
use Rattle.intake.proofs.Bad.{IsRead, some_piece, piece_at, line_more, bad_line, bad_end, good_text, read_draft}
use Rattle.intake.proofs.Sections.{fields_of}
use Rattle.intake.proofs.read.read.Goals as goal

pub overflow_sub-whole : goal.overflow_sub-whole
overflow_sub-whole c =
    let len : c.len-whole.result ≡ length c.in_ok-lines.lines.items = omega (arith, c.len-whole.ensures, c.in_ok-lines.lines.ok.0) in
    omega (arith, len, some_piece c.args.text.now, ap length c.in_ok-lines.ensures, length-map c.in_ok-lines.lines.items (λ (f : Bor (List ℕ)). f.now))

pub index-requires-2 : goal.index-requires-2
index-requires-2 c =
    let len : c.len-whole.result ≡ length c.in_ok-lines.lines.items = omega (arith, c.len-whole.ensures, c.in_ok-lines.lines.ok.0) in
    omega (arith, len, c.len-whole.ensures, some_piece c.args.text.now, ap length c.in_ok-lines.ensures, length-map c.in_ok-lines.lines.items (λ (f : Bor (List ℕ)). f.now))

pub returns-then-not-branch : goal.returns-then-not-branch
returns-then-not-branch c =
    let n : ℕ = c.loop-n.n in
    let len : c.len-whole.result ≡ length c.in_ok-lines.lines.items = omega (arith, c.len-whole.ensures, c.in_ok-lines.lines.ok.0) in
    let h : n < length c.in_ok-lines.lines.items = omega (arith, len, c.loop-n-test.true) in
    let many : length c.in_ok-lines.lines.items ≡ length (pieces c.args.text.now) = sym (length-map c.in_ok-lines.lines.items (λ (f : Bor (List ℕ)). f.now)) ∙ ap length c.in_ok-lines.ensures in (
      omega arith,
      bad_line c.args.kind c.args.text.now n (draft_of c.loop-n.draft) c.index.result.now.now c.loop-n.invariant (omega (arith, many, len, c.loop-n-test.true))
          (piece_at c.args.text.now c.in_ok-lines.lines.items n c.index.result.now c.in_ok-lines.ensures h c.index.ensures)
          (subst (λ (b : Bool). AddsLine c.args.kind (draft_of c.loop-n.draft) (fields_of c.index.result.now.now) (draft_of c.add_line.new.self) b) c.if-not-branch.true c.in_ok-add_line.ensures),
    )

pub loop-n-preserved : goal.loop-n-preserved
loop-n-preserved c =
    let n : ℕ = c.loop-n.n in
    let len : c.len-whole.result ≡ length c.in_ok-lines.lines.items = omega (arith, c.len-whole.ensures, c.in_ok-lines.lines.ok.0) in
    let h : n < length c.in_ok-lines.lines.items = omega (arith, len, c.loop-n-test.true) in
    let many : length c.in_ok-lines.lines.items ≡ length (pieces c.args.text.now) = sym (length-map c.in_ok-lines.lines.items (λ (f : Bor (List ℕ)). f.now)) ∙ ap length c.in_ok-lines.ensures in
    let added = subst (λ (b : Bool). AddsLine c.args.kind (draft_of c.loop-n.draft) (fields_of c.index.result.now.now) (draft_of c.add_line.new.self) b) c.if-not-branch.false c.in_ok-add_line.ensures in
    line_more c.args.kind c.args.text.now n (draft_of c.loop-n.draft) (draft_of c.add_line.new.self) c.index.result.now.now (omega (arith, many))
    (piece_at c.args.text.now c.in_ok-lines.lines.items n c.index.result.now c.in_ok-lines.ensures h c.index.ensures) c.loop-n.invariant added

pub returns-then-not-may_end : goal.returns-then-not-may_end
returns-then-not-may_end c =
    let w : ℕ = c.len-whole.result - 1 in
    let len : c.len-whole.result ≡ length c.in_ok-lines.lines.items = omega (arith, c.len-whole.ensures, c.in_ok-lines.lines.ok.0) in
    let again : c.len.result ≡ length c.in_ok-lines.lines.items = omega (arith, c.len.ensures, c.in_ok-lines.lines.ok.0) in
    let many : length c.in_ok-lines.lines.items ≡ length (pieces c.args.text.now) = sym (length-map c.in_ok-lines.lines.items (λ (f : Bor (List ℕ)). f.now)) ∙ ap length c.in_ok-lines.ensures in
    let some = some_piece c.args.text.now in
    let exit : c.loop-n.n ≡ w = omega (arith, c.loop-n-test.false, c.loop-n.auto.n-end) in
    let last = piece_at c.args.text.now c.in_ok-lines.lines.items w c.index-2.result.now c.in_ok-lines.ensures (omega (arith, many, len, some)) c.index-2.ensures in (
      omega arith,
      bad_end c.args.kind c.args.text.now c.len.result w (draft_of c.loop-n.draft) (subst (λ (n : ℕ). IsRead c.args.kind (take n (pieces c.args.text.now)) (draft_of c.loop-n.draft)) exit c.loop-n.invariant) (omega (arith, many, len, some)) (omega (arith, again, many, len, some))
          (λ e whole. let yes = c.may_end.ensures.1 (sym last ∙ e, whole) in let other = c.if-not-may_end.true in cc),
    )

pub returns : goal.returns
returns c =
    let w : ℕ = c.len-whole.result - 1 in
    let len : c.len-whole.result ≡ length c.in_ok-lines.lines.items = omega (arith, c.len-whole.ensures, c.in_ok-lines.lines.ok.0) in
    let many : length c.in_ok-lines.lines.items ≡ length (pieces c.args.text.now) = sym (length-map c.in_ok-lines.lines.items (λ (f : Bor (List ℕ)). f.now)) ∙ ap length c.in_ok-lines.ensures in
    let some = some_piece c.args.text.now in
    let exit : c.loop-n.n ≡ w = omega (arith, c.loop-n-test.false, c.loop-n.auto.n-end) in
    let end = c.may_end.ensures.0 c.if-not-may_end.false in
    let last = piece_at c.args.text.now c.in_ok-lines.lines.items w c.index-2.result.now c.in_ok-lines.ensures (omega (arith, many, len, some)) c.index-2.ensures ∙ end.0 in (
      read_draft c.args.kind _ _ c.loop-n.invariant,
      end.1,
      good_text c.args.kind c.args.text.now w (draft_of c.loop-n.draft) (subst (λ (n : ℕ). IsRead c.args.kind (take n (pieces c.args.text.now)) (draft_of c.loop-n.draft)) exit c.loop-n.invariant) (omega (arith, many, len, some)) last,
      omega arith,
    )

pub add_line-requires : goal.add_line-requires
add_line-requires c = read_draft c.args.kind _ _ c.loop-n.invariant
