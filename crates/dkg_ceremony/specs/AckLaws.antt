-- What a player acknowledges passes the check.
use Rattle.std.specs.Prelude.{◌≡◌, ℕ, List, Ok, refl, Contains}
use Rattle.std.specs.Str.{bytes_eq}
use Rattle.std.proofs.Common.{true}
use Rattle.std.proofs.lemmas.Slice.Eq.{bytes_eq-Decides}
use Rattle.dkg_values.specs.IndexLaws.{index_of-Contains}
use Rattle.dkg_ceremony.specs.declared.round.RoundParts.{RoundParts as Round}
use Rattle.dkg_ceremony.specs.Acks.{ack_of, check_ack_of}

same_bytes : (xs : List ℕ) → bytes_eq xs xs ≡ true
same_bytes xs = (bytes_eq-Decides xs xs).1 refl

pub ack_passes : (round : Round) (me dealer : ℕ) (public : List ℕ) → Contains round.players me → check_ack_of round dealer public me (ack_of me round dealer public) ≡ Ok tt
unfolding check_ack_of
ack_passes round me dealer public c = rw (index_of-Contains me round.players c, same_bytes (ack_of me round dealer public)) refl
