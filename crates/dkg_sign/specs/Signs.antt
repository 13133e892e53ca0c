-- What a desk answers who asks it to sign, or to combine partials.
use Rattle.std.specs.Prelude.{◌≡◌, ℕ, ◌+◌, ◌==◌, nat_lt, ◌&&◌, not, Bool, false, List, [], ◌∷◌, length, slice_index_or as get_or, Option, Some, None, Result, Ok, Err, if◌then◌else◌}
use Rattle.dkg_values.specs.Rising.{has_key, index_of}
use Rattle.dkg_ceremony.specs.Thresholds.{quorum_of}
use Rattle.dkg_types.specs.declared.scheme.SchemeInfo.{SchemeInfo}
use Rattle.dkg_sign.specs.Desks.{Desk, replaced_by, material_of}
use Rattle.dkg_sign.specs.Materials.{scheme_share, sharing_of}
use Rattle.dkg_sign.specs.Signing.{hash_of, partial_at, partial_of, signature_of, times}
use Rattle.dkg_sign.specs.declared.error.SignError.{SignError}
use Rattle.dkg_sign.specs.declared.error.SignError.TheVariants.{Replaced, Unknown, NoShare}
use Rattle.dkg_sign.specs.declared.error.CombineError.{CombineError}
use Rattle.dkg_sign.specs.declared.error.CombineError.TheVariants as combine
use Rattle.dkg_sign.specs.declared.partial.Partial.{Partial}
use Rattle.dkg_sign.specs.declared.partial.Signature.{Signature}

-- ---- to sign

abbrev pub sign_by : Option ℕ → (me epoch : ℕ) → List ℕ → Result Partial SignError
sign_by None me epoch message = Err (NoShare epoch)
sign_by (Some share) me epoch message = Ok (record { epoch = epoch; signer = me; value = times (hash_of message) share })

abbrev pub sign_with : Option SchemeInfo → (me epoch : ℕ) → List ℕ → Result Partial SignError
sign_with None me epoch message = Err (Unknown epoch)
sign_with (Some info) me epoch message = sign_by (scheme_share info) me epoch message

abbrev pub sign_unless : Option ℕ → Option SchemeInfo → (me epoch : ℕ) → List ℕ → Result Partial SignError
sign_unless (Some current) held me epoch message = Err (Replaced epoch current)
sign_unless None held me epoch message = sign_with held me epoch message

-- Replaced where a later epoch was registered; else Unknown where no material of the epoch is held; else NoShare where it has no share.
abbrev pub sign_of : Desk → (epoch : ℕ) → List ℕ → Result Partial SignError
sign_of desk epoch message = sign_unless (replaced_by desk.current epoch) (material_of desk epoch) desk.me epoch message

-- the partial is the one that the epoch's own output has for its signer
pub record IsPartialOf (desk : Desk) (epoch : ℕ) (message : List ℕ) (partial : Partial) : Type 0 where
  pub info : SchemeInfo
  pub held : material_of desk epoch ≡ Some info
  pub of_epoch : partial.epoch ≡ epoch
  pub of_me : partial.signer ≡ desk.me
  pub value : partial_of info desk.me message ≡ Some partial.value

-- ---- to combine

-- whether a number is this one, where there is one
abbrev pub is_this : Option ℕ → ℕ → Bool
is_this None n = false
is_this (Some m) n = n == m

-- whether a partial is of this epoch, of a participant, and has its value
abbrev pub is_valid_partial : SchemeInfo → (epoch hash : ℕ) → Partial → Bool
is_valid_partial info epoch hash partial = (partial.epoch == epoch) && is_this (partial_at info partial.signer hash) partial.value

-- the first fault of partials, of which the first stands at this index, behind those of these signers
abbrev pub fault_from : SchemeInfo → (epoch hash : ℕ) → (seen : List ℕ) → (index : ℕ) → List Partial → Option CombineError
fault_from info epoch hash seen index [] = None
fault_from info epoch hash seen index (p ∷ ps) =
    if not (is_valid_partial info epoch hash p) then Some (combine.Invalid index)
    else if has_key p.signer seen then Some (combine.Doubled index)
    else fault_from info epoch hash (p.signer ∷ seen) (index + 1) ps

-- the participants at flagged indexes are those that were met
pub record AreMet (participants met : List ℕ) (flags : List Bool) : Type 0 where
  pub each : (key index : ℕ) → index_of key participants ≡ Some index → get_or flags index false ≡ has_key key met

-- What a check answered is the fault, unless memory ran out.
abbrev pub AnswersFault : Option CombineError → Result (Unit {0}) CombineError → Type 0
AnswersFault fault (Ok done) = fault ≡ None
AnswersFault fault (Err combine.NoMemory) = Unit {0}
AnswersFault fault (Err e) = fault ≡ Some e

abbrev pub combine_enough : SchemeInfo → (epoch : ℕ) → List ℕ → (got : ℕ) → Result Signature CombineError
combine_enough info epoch message got =
    let need = quorum_of (sharing_of info).total in
    if nat_lt got need then Err (combine.Few got need) else Ok (record { epoch = epoch; value = signature_of (sharing_of info) message })

abbrev pub combine_unless : Option CombineError → SchemeInfo → (epoch : ℕ) → List ℕ → (got : ℕ) → Result Signature CombineError
combine_unless (Some fault) info epoch message got = Err fault
combine_unless None info epoch message got = combine_enough info epoch message got

abbrev pub combine_with : Option SchemeInfo → (epoch : ℕ) → List ℕ → List Partial → Result Signature CombineError
combine_with None epoch message partials = Err (combine.Unknown epoch)
combine_with (Some info) epoch message partials = combine_unless (fault_from info epoch (hash_of message) [] 0 partials) info epoch message (length partials)

-- Unknown where no material of the epoch is held; else the first fault, of which each partial's own comes before its signer's; else Few
-- where there is no quorum.
abbrev pub combine_of : Desk → List ℕ → (epoch : ℕ) → List Partial → Result Signature CombineError
combine_of desk message epoch partials = combine_with (material_of desk epoch) epoch message partials

-- What a call answered is the answer, unless memory ran out.
abbrev pub AnswersSignature : Result Signature CombineError → Result Signature CombineError → Type 0
AnswersSignature answer (Ok signature) = answer ≡ Ok signature
AnswersSignature answer (Err combine.NoMemory) = Unit {0}
AnswersSignature answer (Err e) = answer ≡ Err e
