-- No call of a store makes a record for which it isn't opened, where what is appended is within the limit.
use Rattle.std.proofs.Common.{◌≡◌, ⊎_elim, ℕ, List, [], ◌∷◌, Bool, true, false, cond, is_ok, nat_le, nat_lt, sym, subst, ap, ◌∙◌}
use Rattle.dkg_values.specs.Codec.{Reading, whole}
use Rattle.dkg_journal.specs.Names.{Files}
use Rattle.dkg_journal.specs.Disk.{ImagesFollow, Inside}
use Rattle.dkg_journal.specs.Opening.{AreUnbroken, first_break}
use Rattle.dkg_journal.specs.Pruning.{MayLeave}
use Rattle.dkg_journal.specs.Records.{SectionEntry, entries, from_section, placed}
use Rattle.dkg_journal.specs.Steps.{Keeps, MayAdd}
use Rattle.dkg_journal.specs.declared.disk.Op.TheVariants.{Barrier}
use Rattle.dkg_store.specs.Corrupt.{AreEvents, AreFit}
use Rattle.dkg_store.specs.Events.{EventFits, event_spelling, is_event_body}
use Rattle.dkg_store.specs.declared.event.Event.{Event}
use Rattle.dkg_store.proofs.Events.{read_again}

module _ (limit : ℕ) where
  placed_events : (es : List SectionEntry) (e : SectionEntry) → is_event_body limit e.1 ≡ true → AreEvents limit es → AreEvents limit (placed es e)
  placed_events [] e is all = (is, tt)
  placed_events (x ∷ xs) e is all = by_order (nat_lt e.0 x.0) (placed_events xs e is all.1)
    where
      by_order : (b : Bool) → AreEvents limit (placed xs e) → AreEvents limit (cond b (e ∷ x ∷ xs) (x ∷ placed xs e))
      by_order true later = (is, all)
      by_order false later = (all.0, later)

  from_events : (min : ℕ) (es : List SectionEntry) → AreEvents limit es → AreEvents limit (from_section min es)
  from_events min [] all = tt
  from_events min (x ∷ xs) all = by_section (nat_le min x.0) (from_events min xs all.1)
    where
      by_section : (b : Bool) → AreEvents limit (from_section min xs) → AreEvents limit (cond b (x ∷ from_section min xs) (from_section min xs))
      by_section true later = (all.0, later)
      by_section false later = later

  same_events : (es others : List SectionEntry) → others ≡ es → AreEvents limit es → AreEvents limit others
  same_events es others same all = subst (AreEvents limit) (sym same) all

  pub kept_fit : (image next : Files → Type 0) → ImagesFollow Keeps image next → AreUnbroken next → AreFit limit image → AreFit limit next
  kept_fit image next follows whole fit = record {
    whole = whole;
    events = λ c here. let from = follows.each c here in same_events (entries from.0) (entries c) from.2.same (fit.events from.0 from.1);
  }

  pub may_add_fit : (e : SectionEntry) (image next : Files → Type 0) → is_event_body limit e.1 ≡ true → ImagesFollow (MayAdd e) image next → AreUnbroken next → AreFit limit image → AreFit limit next
  may_add_fit e image next is follows whole fit = record {
    whole = whole;
    events = λ c here.
        let from = follows.each c here in
        let all = fit.events from.0 from.1 in
        ⊎_elim
        (λ same. same_events (entries from.0) (entries c) same all)
        (λ more. same_events (placed (entries from.0) e) (entries c) more (placed_events (entries from.0) e is all))
        from.2.either;
  }

  pub may_leave_fit : (min : ℕ) (image next : Files → Type 0) → ImagesFollow (MayLeave min) image next → AreUnbroken next → AreFit limit image → AreFit limit next
  may_leave_fit min image next follows whole fit = record {
    whole = whole;
    events = λ c here.
        let from = follows.each c here in
        same_events (from_section from.2.least (entries from.0)) (entries c) from.2.leaves.left (from_events from.2.least (entries from.0) (fit.events from.0 from.1));
  }

-- a barrier keeps every image
pub barred_unbroken : (image next : Files → Type 0) → ImagesFollow (Inside Barrier) image next → AreUnbroken image → AreUnbroken next
barred_unbroken image next follows whole = record { each = λ c here. let from = follows.each c here in ap first_break from.2 ∙ whole.each from.0 from.1 }

-- an event within the limit is read under it
pub fits_event : (limit : ℕ) (e : Event) → EventFits limit e → is_event_body limit (event_spelling e) ≡ true
fits_event limit e fits = ap (λ (r : Reading Event). is_ok (whole r)) (read_again limit e fits)
