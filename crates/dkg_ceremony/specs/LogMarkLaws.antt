-- What a dealer signs passes the check.
use Rattle.std.proofs.Common.{◌≡◌, ℕ, true, List, refl}
use Rattle.std.specs.Prelude.{Contains}
use Rattle.std.specs.Str.{bytes_eq}
use Rattle.std.proofs.lemmas.Slice.Eq.{bytes_eq-Decides}
use Rattle.dkg_values.specs.IndexLaws.{index_of-Contains}
use Rattle.dkg_ceremony.specs.declared.round.RoundParts.{RoundParts as Round}
use Rattle.dkg_ceremony.specs.ValidLogs.{check_log_of, sign_log_of}

same_bytes : (xs : List ℕ) → bytes_eq xs xs ≡ true
same_bytes xs = (bytes_eq-Decides xs xs).1 refl

pub signed_passes : (round : Round) (signer : ℕ) (public : List ℕ) (privates : List (ℕ × ℕ)) (acks : List (ℕ × List ℕ)) → Contains round.dealers signer → check_log_of round (sign_log_of signer round public privates acks) ≡ true
unfolding check_log_of sign_log_of
signed_passes round signer public privates acks c = rw (index_of-Contains signer round.dealers c) (same_bytes (sign_log_of signer round public privates acks).mark)
