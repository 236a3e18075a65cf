-- Where `clap` finds no fault in the words, they name a line, and each of its arguments has a word that may stand for it.
use Rattle.std.proofs.Common.{◌≡◌, ◌||◌, ◌∙◌, ℕ, Bool, List, [], ◌∷◌, Option, Some, None, true, false, inl, inr, refl, sym, ap, subst, map, codes}
use Rattle.args.proofs.Common.{IsSomeAnd, list_any, bytes_eq, bytes_eq-Decides, word_of, list_any-map, level_fault, Shape, argument_words, built, filled, help_rule, with_index, arg_by_id, nothing_held, rows_after, Row, Text, fault_of, subcommand_of, import_kinds, report_kinds, report_word, AreWords, parser_of, program, rule_by, AreGiven, Each, HasOne, IsGiven, fits, word_in, Argument, aim, count, database, file, id, import_kind, port, report_kind, round, student, further, needs, Kinds, Takes, Word, Number, ImportKind, ReportKind, Aim}
use Rattle.std.specs.Borrow.{Bor}
use Rattle.spa.specs.Aims.{aims, aim_word}
use Rattle.clap.specs.ValueTests.{accepts}
use Rattle.clap.specs.Words.{Rule}
use Rattle.args.proofs.Taken.{HasValue, IsHelp, IsValue, Plain, app_values, line_values}

same_words : {K : Type 0} (word_by : K → Text) (kinds : List K) (names : List (Bor Text)) (word : Text) → map (λ n. n.now) names ≡ map word_by kinds
    → list_any (λ (n : Bor Text). bytes_eq n.now word) names ≡ list_any (λ k. bytes_eq (word_by k) word) kinds
same_words word_by kinds names word are =
    list_any-map (λ (w : Text). bytes_eq w word) (λ (n : Bor Text). n.now) names ∙ ap (list_any (λ (w : Text). bytes_eq w word)) are ∙ sym (list_any-map (λ (w : Text). bytes_eq w word) word_by kinds)

-- a word that passes the parser may stand for the argument
fits_by : (kinds : Kinds) → AreWords kinds → (takes : Takes) (word : Text) → accepts false (parser_of kinds takes) word ≡ true → fits takes word ≡ true
fits_by kinds are Word word h = refl
fits_by kinds are (Number least most) word h = h
fits_by kinds are ImportKind word h = sym (same_words word_of import_kinds kinds.imports.now word are.imports) ∙ h
fits_by kinds are ReportKind word h = sym (same_words report_word report_kinds kinds.reports.now word are.reports) ∙ h
fits_by kinds are Aim word h = sym (same_words aim_word aims kinds.aims.now word are.aims) ∙ h

one_by : (b : Bool) (o : Option Text) (P Q : Text → Type 0) → ((x : Text) → P x → Q x) → HasOne b o P → HasOne b o Q
one_by true None P Q f h = h
one_by true (Some x) P Q f h = f x h
one_by false None P Q f h = h
one_by false (Some x) P Q f h = f x h

-- an argument's rule, at its place
abbrev rule_at : Kinds → ℕ → Argument → Rule
rule_at kinds i argument = with_index i (filled (rule_by kinds argument))

is_value : (kinds : Kinds) (i : ℕ) (argument : Argument) → IsValue (rule_at kinds i argument)
is_value kinds i argument = record { action = refl; range = refl; long = λ n. refl; short = λ c. refl }

is_help : (i : ℕ) → IsHelp (with_index i (filled help_rule))
is_help i = record { action = refl; range = refl }

pub given_by : (kinds : Kinds) → AreWords kinds → (s : Shape) (rows : List Row) (i : ℕ) (argument : Argument) → HasValue s rows (rule_at kinds i argument)
    → arg_by_id s.rules argument.name ≡ Some (rule_at kinds i argument) → IsGiven rows argument
given_by kinds are s rows i argument has known =
    one_by argument.needed (word_in rows argument) _ (λ (word : Text). fits argument.takes word ≡ true) (λ word pass. fits_by kinds are argument.takes word pass) (has (rule_at kinds i argument) known)

-- the rules of a line with one to four arguments
one_leaf : (kinds : Kinds) → AreWords kinds → (s : Shape) (a : Argument) → s.rules ≡ rule_at kinds 1 a ∷ with_index 2 (filled help_rule) ∷ []
    → arg_by_id s.rules a.name ≡ Some (rule_at kinds 1 a) → (words : List Text) → level_fault s [] nothing_held words false [] ≡ [] → Each (IsGiven (rows_after s.rules [] words)) (a ∷ [])
one_leaf kinds are s a is known words e =
    let simple : Each Plain s.rules = subst (λ (r : List Rule). Each Plain r) (sym is) (inl (is_value kinds 1 a), (inr (is_help 2), tt)) in
    let none : Each (λ (b : Rule). b.defaults ≡ []) s.rules = subst (λ (r : List Rule). Each (λ (b : Rule). b.defaults ≡ []) r) (sym is) (refl, (refl, tt)) in
    let has = subst (λ (r : List Rule). Each (HasValue s (rows_after s.rules [] words)) r) is (line_values s words simple none e) in
    (given_by kinds are s (rows_after s.rules [] words) 1 a has.0 known, tt)

two_leaf : (kinds : Kinds) → AreWords kinds → (s : Shape) (a b : Argument) → s.rules ≡ rule_at kinds 1 a ∷ rule_at kinds 2 b ∷ with_index 3 (filled help_rule) ∷ []
    → arg_by_id s.rules a.name ≡ Some (rule_at kinds 1 a) → arg_by_id s.rules b.name ≡ Some (rule_at kinds 2 b)
    → (words : List Text) → level_fault s [] nothing_held words false [] ≡ [] → Each (IsGiven (rows_after s.rules [] words)) (a ∷ b ∷ [])
two_leaf kinds are s a b is one two words e =
    let simple : Each Plain s.rules = subst (λ (r : List Rule). Each Plain r) (sym is) (inl (is_value kinds 1 a), (inl (is_value kinds 2 b), (inr (is_help 3), tt))) in
    let none : Each (λ (d : Rule). d.defaults ≡ []) s.rules = subst (λ (r : List Rule). Each (λ (d : Rule). d.defaults ≡ []) r) (sym is) (refl, (refl, (refl, tt))) in
    let rows : List Row = rows_after s.rules [] words in
    let has = subst (λ (r : List Rule). Each (HasValue s (rows_after s.rules [] words)) r) is (line_values s words simple none e) in
    (given_by kinds are s rows 1 a has.0 one, (given_by kinds are s rows 2 b has.1.0 two, tt))

three_leaf : (kinds : Kinds) → AreWords kinds → (s : Shape) (a b c : Argument) → s.rules ≡ rule_at kinds 1 a ∷ rule_at kinds 2 b ∷ rule_at kinds 3 c ∷ with_index 4 (filled help_rule) ∷ []
    → arg_by_id s.rules a.name ≡ Some (rule_at kinds 1 a) → arg_by_id s.rules b.name ≡ Some (rule_at kinds 2 b) → arg_by_id s.rules c.name ≡ Some (rule_at kinds 3 c)
    → (words : List Text) → level_fault s [] nothing_held words false [] ≡ [] → Each (IsGiven (rows_after s.rules [] words)) (a ∷ b ∷ c ∷ [])
three_leaf kinds are s a b c is one two three words e =
    let simple : Each Plain s.rules = subst (λ (r : List Rule). Each Plain r) (sym is) (inl (is_value kinds 1 a), (inl (is_value kinds 2 b), (inl (is_value kinds 3 c), (inr (is_help 4), tt)))) in
    let none : Each (λ (d : Rule). d.defaults ≡ []) s.rules = subst (λ (r : List Rule). Each (λ (d : Rule). d.defaults ≡ []) r) (sym is) (refl, (refl, (refl, (refl, tt)))) in
    let rows : List Row = rows_after s.rules [] words in
    let has = subst (λ (r : List Rule). Each (HasValue s (rows_after s.rules [] words)) r) is (line_values s words simple none e) in
    (given_by kinds are s rows 1 a has.0 one, (given_by kinds are s rows 2 b has.1.0 two, (given_by kinds are s rows 3 c has.1.1.0 three, tt)))

four_leaf : (kinds : Kinds) → AreWords kinds → (s : Shape) (a b c d : Argument) → s.rules ≡ rule_at kinds 1 a ∷ rule_at kinds 2 b ∷ rule_at kinds 3 c ∷ rule_at kinds 4 d ∷ with_index 5 (filled help_rule) ∷ []
    → arg_by_id s.rules a.name ≡ Some (rule_at kinds 1 a) → arg_by_id s.rules b.name ≡ Some (rule_at kinds 2 b) → arg_by_id s.rules c.name ≡ Some (rule_at kinds 3 c) → arg_by_id s.rules d.name ≡ Some (rule_at kinds 4 d)
    → (words : List Text) → level_fault s [] nothing_held words false [] ≡ [] → Each (IsGiven (rows_after s.rules [] words)) (a ∷ b ∷ c ∷ d ∷ [])
four_leaf kinds are s a b c d is one two three four words e =
    let simple : Each Plain s.rules = subst (λ (r : List Rule). Each Plain r) (sym is) (inl (is_value kinds 1 a), (inl (is_value kinds 2 b), (inl (is_value kinds 3 c), (inl (is_value kinds 4 d), (inr (is_help 5), tt))))) in
    let none : Each (λ (x : Rule). x.defaults ≡ []) s.rules = subst (λ (r : List Rule). Each (λ (x : Rule). x.defaults ≡ []) r) (sym is) (refl, (refl, (refl, (refl, (refl, tt))))) in
    let rows : List Row = rows_after s.rules [] words in
    let has = subst (λ (r : List Rule). Each (HasValue s (rows_after s.rules [] words)) r) is (line_values s words simple none e) in
    (given_by kinds are s rows 1 a has.0 one, (given_by kinds are s rows 2 b has.1.0 two, (given_by kinds are s rows 3 c has.1.1.0 three, (given_by kinds are s rows 4 d has.1.1.1.0 four, tt))))

-- the line with a list, whose arguments are fourteen
own_leaf : (kinds : Kinds) → AreWords kinds → (s : Shape) (a1 a2 a3 a4 a5 a6 a7 a8 a9 a10 a11 a12 a13 a14 : Argument) → s.rules ≡ rule_at kinds 1 a1 ∷ rule_at kinds 2 a2 ∷ rule_at kinds 3 a3 ∷ rule_at kinds 4 a4 ∷ rule_at kinds 5 a5 ∷ rule_at kinds 6 a6 ∷ rule_at kinds 7 a7 ∷ rule_at kinds 8 a8 ∷ rule_at kinds 9 a9 ∷ rule_at kinds 10 a10 ∷ rule_at kinds 11 a11 ∷ rule_at kinds 12 a12 ∷ rule_at kinds 13 a13 ∷ rule_at kinds 14 a14 ∷ with_index 15 (filled help_rule) ∷ []
    → arg_by_id s.rules a1.name ≡ Some (rule_at kinds 1 a1) → arg_by_id s.rules a2.name ≡ Some (rule_at kinds 2 a2) → arg_by_id s.rules a3.name ≡ Some (rule_at kinds 3 a3) → arg_by_id s.rules a4.name ≡ Some (rule_at kinds 4 a4) → arg_by_id s.rules a5.name ≡ Some (rule_at kinds 5 a5) → arg_by_id s.rules a6.name ≡ Some (rule_at kinds 6 a6) → arg_by_id s.rules a7.name ≡ Some (rule_at kinds 7 a7) → arg_by_id s.rules a8.name ≡ Some (rule_at kinds 8 a8) → arg_by_id s.rules a9.name ≡ Some (rule_at kinds 9 a9) → arg_by_id s.rules a10.name ≡ Some (rule_at kinds 10 a10) → arg_by_id s.rules a11.name ≡ Some (rule_at kinds 11 a11) → arg_by_id s.rules a12.name ≡ Some (rule_at kinds 12 a12) → arg_by_id s.rules a13.name ≡ Some (rule_at kinds 13 a13) → arg_by_id s.rules a14.name ≡ Some (rule_at kinds 14 a14)
    → (words : List Text) → level_fault s [] nothing_held words false [] ≡ [] → Each (IsGiven (rows_after s.rules [] words)) (a1 ∷ a2 ∷ a3 ∷ a4 ∷ a5 ∷ a6 ∷ a7 ∷ a8 ∷ a9 ∷ a10 ∷ a11 ∷ a12 ∷ a13 ∷ a14 ∷ [])
own_leaf kinds are s a1 a2 a3 a4 a5 a6 a7 a8 a9 a10 a11 a12 a13 a14 is h1 h2 h3 h4 h5 h6 h7 h8 h9 h10 h11 h12 h13 h14 words e =
    let simple : Each Plain s.rules = subst (λ (r : List Rule). Each Plain r) (sym is) (inl (is_value kinds 1 a1), (inl (is_value kinds 2 a2), (inl (is_value kinds 3 a3), (inl (is_value kinds 4 a4), (inl (is_value kinds 5 a5), (inl (is_value kinds 6 a6), (inl (is_value kinds 7 a7), (inl (is_value kinds 8 a8), (inl (is_value kinds 9 a9), (inl (is_value kinds 10 a10), (inl (is_value kinds 11 a11), (inl (is_value kinds 12 a12), (inl (is_value kinds 13 a13), (inl (is_value kinds 14 a14), (inr (is_help 15), tt))))))))))))))) in
    let none : Each (λ (x : Rule). x.defaults ≡ []) s.rules = subst (λ (r : List Rule). Each (λ (x : Rule). x.defaults ≡ []) r) (sym is) (refl, (refl, (refl, (refl, (refl, (refl, (refl, (refl, (refl, (refl, (refl, (refl, (refl, (refl, (refl, tt))))))))))))))) in
    let rows : List Row = rows_after s.rules [] words in
    let has = subst (λ (r : List Rule). Each (HasValue s (rows_after s.rules [] words)) r) is (line_values s words simple none e) in
    (given_by kinds are s rows 1 a1 has.0 h1, (given_by kinds are s rows 2 a2 has.1.0 h2, (given_by kinds are s rows 3 a3 has.1.1.0 h3, (given_by kinds are s rows 4 a4 has.1.1.1.0 h4, (given_by kinds are s rows 5 a5 has.1.1.1.1.0 h5, (given_by kinds are s rows 6 a6 has.1.1.1.1.1.0 h6, (given_by kinds are s rows 7 a7 has.1.1.1.1.1.1.0 h7, (given_by kinds are s rows 8 a8 has.1.1.1.1.1.1.1.0 h8, (given_by kinds are s rows 9 a9 has.1.1.1.1.1.1.1.1.0 h9, (given_by kinds are s rows 10 a10 has.1.1.1.1.1.1.1.1.1.0 h10, (given_by kinds are s rows 11 a11 has.1.1.1.1.1.1.1.1.1.1.0 h11, (given_by kinds are s rows 12 a12 has.1.1.1.1.1.1.1.1.1.1.1.0 h12, (given_by kinds are s rows 13 a13 has.1.1.1.1.1.1.1.1.1.1.1.1.0 h13, (given_by kinds are s rows 14 a14 has.1.1.1.1.1.1.1.1.1.1.1.1.1.0 h14, tt))))))))))))))

-- `help` is no line
no_help : (word : Text) → (bytes_eq (codes "help") word || false) ≡ true → bytes_eq word (codes "help") ≡ false → ⊥
no_help word h other = go (bytes_eq (codes "help") word) refl h
  where
    go : (b : Bool) → bytes_eq (codes "help") word ≡ b → (b || false) ≡ true → ⊥
    go true is h = let bad : true ≡ false = subst (λ (w : Text). bytes_eq w (codes "help") ≡ false) (sym ((bytes_eq-Decides (codes "help") word).0 is)) other in cc
    go false is h = cc

pub values_given : (kinds : Kinds) → AreWords kinds → (words : List Text) → fault_of (program kinds) words ≡ [] → IsSomeAnd (subcommand_of (program kinds) words) (λ s. AreGiven s.0 s.1)
values_given kinds are words e =
    app_values AreGiven (built (program kinds)) (argument_words (program kinds) words) refl refl (
      (λ word at other ws f. three_leaf kinds are _ database port count refl refl refl refl ws f),
      (
        (λ word at other ws f. four_leaf kinds are _ database import_kind id file refl refl refl refl refl ws f),
        (
          (λ word at other ws f. two_leaf kinds are _ database aim refl refl refl ws f),
          (
            (λ word at other ws f. one_leaf kinds are _ database refl refl ws f),
            (
              (λ word at other ws f. one_leaf kinds are _ database refl refl ws f),
              (
                (λ word at other ws f. three_leaf kinds are _ database report_kind round refl refl refl refl ws f),
                (
                  (λ word at other ws f. one_leaf kinds are _ file refl refl ws f),
                  ((λ word at other ws f. one_leaf kinds are _ file refl refl ws f), ((λ word at other ws f. one_leaf kinds are _ file refl refl ws f), ((λ word at other ws f. own_leaf kinds are _ file student (needs (codes "P1") Word) (further (codes "P2")) (further (codes "P3")) (further (codes "P4")) (further (codes "P5")) (further (codes "P6")) (further (codes "P7")) (further (codes "P8")) (further (codes "P9")) (further (codes "P10")) (further (codes "P11")) (further (codes "P12")) refl refl refl refl refl refl refl refl refl refl refl refl refl refl refl ws f), ((λ word at other ws f. absurd (no_help word at other)), tt)))),
                ),
              ),
            ),
          ),
        ),
      ),
    )
    e
