-- Any step gives back what was given back before it.
use Rattle.std.proofs.Common.{◌≡◌, ◌≤◌, ℕ, List, [], ◌∷◌, Some, refl, sym, subst}
use Rattle.std.specs.List.{AllByRecursion}
use Rattle.std.specs.FinMap.{get}
use Rattle.dkg_infos.specs.declared.entry.Entry.{Entry}
use Rattle.dkg_infos.specs.declared.entry.Entry.TheVariants.{Recorded}
use Rattle.dkg_store.specs.Acts.{World, notes}
use Rattle.dkg_store.specs.Pairs.{IsWhole}
use Rattle.dkg_store.proofs.Acts.{along_runs}
use Rattle.dkg_core.specs.Courses.{on_devices}
use Rattle.dkg_core.specs.Core.{step}
use Rattle.dkg_core.specs.Heard.{recovered_in}
use Rattle.dkg_core.specs.Enduring.{OwnAckOf, IsSaidFrom, IsKeptFrom, StepsGiveBack}
use Rattle.dkg_core.specs.Transcripts.{with_out}
use Rattle.dkg_laws.proofs.Enduring.{steps_keep}
use Rattle.dkg_laws.proofs.Transcripts.{transcripts_move}

-- a dealing that was told since the beginning is given back
module _ (ack_of : OwnAckOf) (most : ℕ) (epoch dealer : ℕ) (public : List ℕ) (private : ℕ) where
  abbrev line : Entry
  line = Recorded epoch dealer public private

  -- a transcript that begins with it
  pub told : (w : World) → IsWhole (notes w.held) w.held.secrets → get (recovered_in w.held) (epoch, dealer) ≡ Some (public, private) → IsKeptFrom ack_of most [] (with_out (line ∷ []) w)
  told w whole got = record { whole = whole; added = line ∷ []; out = refl; said = (λ above. got, tt) }

  pub given : (w : World) (added : List Entry) → IsKeptFrom ack_of most [] (with_out (line ∷ added) w) → most ≤ epoch → get (recovered_in w.held) (epoch, dealer) ≡ Some (public, private)
  given w added q above = (subst (AllByRecursion (IsSaidFrom ack_of most w.held)) (sym q.out) q.said).0 above

pub steps_give_back : {Dir : Type 0} → StepsGiveBack Dir
steps_give_back c st message ended most w new low agreed can ran key pair above got =
    let ack_of : OwnAckOf = c.rules.ack_of c.me in
    let before : World = with_out (Recorded key.0 key.1 pair.0 pair.1 ∷ []) w in
    let moved = transcripts_move (on_devices (step c message st)) ended w new (Recorded key.0 key.1 pair.0 pair.1 ∷ []) ran in
    given ack_of most key.0 key.1 pair.0 pair.1 new moved.0
    (along_runs (IsKeptFrom ack_of most []) (on_devices (step c message st)) ended before (with_out (Recorded key.0 key.1 pair.0 pair.1 ∷ moved.0) new)
    (steps_keep c st message most [] before low agreed can (told ack_of most key.0 key.1 pair.0 pair.1 w agreed.whole got)) moved.2) above
