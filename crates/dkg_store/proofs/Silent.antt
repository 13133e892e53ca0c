-- A record that is not of a dealing changes nothing of the dealings.
use Rattle.std.proofs.Common.{◌≡◌, ◌⊎◌, inl, inr, ℕ, cond, true, false, nat_lt, List, [], ◌∷◌, fold, None, Ok, sym, ◌∙◌, ap, subst}
use Rattle.std.specs.FinMap.{empty}
use Rattle.dkg_values.specs.Codec.{Reading, whole}
use Rattle.dkg_journal.specs.Names.{Files}
use Rattle.dkg_journal.specs.Disk.{ImagesFollow}
use Rattle.dkg_journal.specs.Records.{SectionEntry, entries, placed}
use Rattle.dkg_journal.specs.Steps.{MayAdd}
use Rattle.dkg_store.specs.Events.{event_spelling, no_limit, IsEvent}
use Rattle.dkg_store.specs.declared.event.Event.{Event}
use Rattle.dkg_secrets.specs.Secrets.{Secrets}
use Rattle.dkg_store.specs.Pairs.{Pairs, dealing_in_event, recorded_dealing, with_dealing, recovered, HasHalf, IsWhole, HoldsDealings}
use Rattle.dkg_store.proofs.Events.{read_again}
use Rattle.dkg_store.proofs.Pairs.{step, whole_placed}

pub says_dealing : (epoch : ℕ) (event : Event) → IsEvent event → recorded_dealing (epoch, event_spelling event) ≡ dealing_in_event epoch (Ok event)
says_dealing epoch event is = ap (λ (r : Reading Event). dealing_in_event epoch (whole r)) (read_again no_limit event is)

module _ (s : Secrets) (e : SectionEntry) (silent : recorded_dealing e ≡ None) where
  fold_silent : (es : List SectionEntry) (m : Pairs) → fold (step s) m (placed es e) ≡ fold (step s) m es
  fold_silent [] m = ap (with_dealing s m) silent
  fold_silent (x ∷ xs) m = elim (nat_lt e.0 x.0) as (λ b. fold (step s) m (cond b (e ∷ x ∷ xs) (x ∷ placed xs e)) ≡ fold (step s) m (x ∷ xs)) [
    | true ↦ ap (λ (n : Pairs). fold (step s) n (x ∷ xs)) (ap (with_dealing s m) silent)
    | false ↦ fold_silent xs (step s m x)
  ]

  still_whole : (d es : List SectionEntry) → IsWhole d s → (es ≡ d) ⊎ (es ≡ placed d e) → IsWhole es s
  still_whole d es whole either = elim either [
    | inl is ↦ subst (λ (l : List SectionEntry). IsWhole l s) (sym is) whole
    | inr is ↦ subst (λ (l : List SectionEntry). IsWhole l s) (sym is) (whole_placed s e (subst (HasHalf s) (sym silent) tt) d whole)
  ]

  still_gives : (pairs : Pairs) (d es : List SectionEntry) → recovered d s ≡ pairs → (es ≡ d) ⊎ (es ≡ placed d e) → recovered es s ≡ pairs
  still_gives pairs d es gives either = elim either [
    | inl is ↦ ap (λ (l : List SectionEntry). recovered l s) is ∙ gives
    | inr is ↦ ap (λ (l : List SectionEntry). recovered l s) is ∙ fold_silent d empty ∙ gives
  ]

  -- whether the record is there or not
  pub silent_holds : (pairs : Pairs) (image next : Files → Type 0) → ImagesFollow (MayAdd e) image next → HoldsDealings pairs image s → HoldsDealings pairs next s
  silent_holds pairs image next follows holds = record {
    whole = λ c here. let from = follows.each c here in still_whole (entries from.0) (entries c) (holds.whole from.0 from.1) from.2.either;
    gives = λ c here. let from = follows.each c here in still_gives pairs (entries from.0) (entries c) (holds.gives from.0 from.1) from.2.either;
  }
