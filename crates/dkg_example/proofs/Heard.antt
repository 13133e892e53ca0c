-- What is recorded of what was heard.
use Rattle.std.proofs.Common.{◌≡◌, ◌⊎◌, inl, inr, ℕ, List, [], ◌∷◌, ◌++◌, Option, Some, None, is_some, IsSome, Result, Ok, Err, refl, ap, ◌∙◌, if◌then◌else◌}
use Rattle.std.specs.FinMap.{get, insert}
use Rattle.dkg_ceremony.specs.declared.ceremony.DealingError.{DealingError}
use Rattle.dkg_infos.specs.declared.entry.Entry.{Entry as Line}
use Rattle.dkg_infos.specs.declared.entry.Entry.TheVariants.{Recorded}
use Rattle.dkg_store.specs.Pairs.{Pairs}
use Rattle.dkg_types.specs.declared.message.Message.{Message}
use Rattle.dkg_types.specs.declared.message.Message.TheVariants.{Dealer, Ack}
use Rattle.dkg_store.proofs.Playing.{not_none}
use Rattle.dkg_example.specs.Sent.{RecordsJust, first_heard}
use Rattle.dkg_example.specs.declared.Answer.{Answer}
use Rattle.dkg_example.specs.declared.Answer.TheVariants.{Send, Block}
use Rattle.dkg_example.proofs.Recording.{added}

-- nothing is recorded or told
pub records_none : (epoch dealer : ℕ) (pairs later : Pairs) (out now : List Line) → later ≡ pairs → now ≡ out → RecordsJust None epoch dealer pairs later out now
records_none epoch dealer pairs later out now same untold = record { recorded = same; told = untold }

-- what an answered dealing leaves
pub records_first : (E : Type 0) (ack : List ℕ) (epoch dealer : ℕ) (public : List ℕ) (private : ℕ) (recorded : Option (List ℕ × ℕ)) (pairs later : Pairs) (out now : List Line)
    → later ≡ (if is_some recorded then pairs else insert pairs (epoch, dealer) (public, private)) → now ≡ (if is_some recorded then out else out ++ Recorded epoch dealer public private ∷ [])
    → RecordsJust (first_heard {E = E} (Ok (Send ack)) (Some (Dealer public private)) recorded) epoch dealer pairs later out now
records_first E ack epoch dealer public private None pairs later out now kept told = record { recorded = kept; told = told }
records_first E ack epoch dealer public private (Some pair) pairs later out now kept told = record { recorded = kept; told = told }

-- it passed, if its dealer's wasn't recorded
pub answered_fair : (check : Result (Unit {0}) DealingError) (recorded : Option (List ℕ × ℕ)) → (recorded ≡ None → check ≡ Ok tt) → IsSome recorded ⊎ (check ≡ Ok tt)
answered_fair check None passed = inr (passed refl)
answered_fair check (Some pair) passed = inl refl

-- What is recorded of a dealer stays.
abbrev pub Stays : Pairs → Pairs → Type 0
Stays pairs later = (epoch dealer : ℕ) → IsSome (get pairs (epoch, dealer)) → get later (epoch, dealer) ≡ get pairs (epoch, dealer)

stays_by : (dealing recorded : Option (List ℕ × ℕ)) (epoch dealer : ℕ) (pairs later : Pairs) (out now : List Line) → get pairs (epoch, dealer) ≡ recorded → (IsSome recorded → dealing ≡ None) → RecordsJust dealing epoch dealer pairs later out now → Stays pairs later
stays_by None recorded epoch dealer pairs later out now there first just = λ e d is. ap (λ (m : Pairs). get m (e, d)) just.recorded
stays_by (Some pair) None epoch dealer pairs later out now there first just = λ e d is. ap (λ (m : Pairs). get m (e, d)) just.recorded ∙ added pairs (epoch, dealer) pair e d there is
stays_by (Some pair) (Some other) epoch dealer pairs later out now there first just = absurd (let h : ◌≡◌ {A = Option (List ℕ × ℕ)} (Some pair) None = first refl in cc)

none_first : {E : Type 0} (result : Result Answer E) (heard : Option Message) (recorded : Option (List ℕ × ℕ)) → IsSome recorded → first_heard result heard recorded ≡ None
none_first {E} (Err e) heard recorded is = refl
none_first {E} (Ok Block) heard recorded is = refl
none_first {E} (Ok (Send ack)) None recorded is = refl
none_first {E} (Ok (Send ack)) (Some (Ack other)) recorded is = refl
none_first {E} (Ok (Send ack)) (Some (Dealer public private)) None is = absurd (not_none {A = List ℕ × ℕ} None is refl)
none_first {E} (Ok (Send ack)) (Some (Dealer public private)) (Some pair) is = refl

-- So what is recorded stays, whatever is heard.
pub first_stays : {E : Type 0} (result : Result Answer E) (heard : Option Message) (epoch dealer : ℕ) (pairs later : Pairs) (out now : List Line)
    → RecordsJust (first_heard result heard (get pairs (epoch, dealer))) epoch dealer pairs later out now → Stays pairs later
first_stays {E} result heard epoch dealer pairs later out now just =
    stays_by (first_heard result heard (get pairs (epoch, dealer))) (get pairs (epoch, dealer)) epoch dealer pairs later out now refl (none_first result heard (get pairs (epoch, dealer))) just
