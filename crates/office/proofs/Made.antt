-- A plain request was made: the office after it is the one that is asked for, so it is fit, and the changes transform the rows.
use Rattle.office.proofs.Common.{option_map_or, Round, Plain, Done, put, State, round_key, round_of, last_round, IsFit, Transforms, plain_refusal, after_plain, plain_reply, with_last, IsDone, changes_of, ◌≡◌, Option, Some, None, sym, ap, subst, ◌∙◌, List}
use Rattle.office.proofs.changes.StaysFit.{stays_fit}
use Rattle.office.proofs.changes.PlainTransforms.{changes_transform}

module _ (q : Plain) (inside old : State) (seen : inside ≡ old) (none : plain_refusal old q ≡ None) (fit : IsFit inside) where
  pub made_fit : (new : State) → new ≡ after_plain q old → IsFit new
  made_fit new is = subst IsFit (sym is) (stays_fit q old (subst IsFit seen fit) none)

  pub made_done : (new : State) → new ≡ after_plain q old → (done : Done) → Some done.reply ≡ plain_reply q old → done.changes.items ≡ changes_of q old → IsDone q old new done
  made_done new is done answer changed = record {
    allowed = none;
    after = is;
    reply = answer;
    changes = subst (λ cs. Transforms cs old new) (sym changed) (subst (Transforms (changes_of q old) old) (sym is) (changes_transform q old (subst IsFit seen fit) none));
  }

-- the last round was put in its place
pub last_put : (f : Round → Round) (inside old : State) → inside ≡ old → (r : Round) → round_of old (last_round old) ≡ Some r → (rounds : List Round) → rounds ≡ put round_key (f r) inside.rounds
    → record inside { rounds = rounds } ≡ with_last f old
last_put f inside old seen r found rounds is =
    ap (λ (rs : List Round). record inside { rounds = rs }) is
    ∙ (λ i. let n : State = seen i in record n { rounds = put round_key (f r) n.rounds })
    ∙ sym (ap (λ (x : Option Round). record old { rounds = option_map_or (λ s. put round_key (f s) old.rounds) x old.rounds }) found)
