-- The material of an epoch: who takes part, the shared key in public, and a node's share.
use Rattle.std.specs.Prelude.{ℕ, ◌+◌, ◌==◌, ◌&&◌, Bool, true, false, List, [], ◌∷◌, length, Option, Some, None, option_map}
use Rattle.dkg_values.specs.Rising.{index_of}
use Rattle.dkg_ceremony.specs.PartialPublics.{share_public_of}
use Rattle.dkg_ceremony.specs.Polynomials.{value_at}
use Rattle.dkg_ceremony.specs.Thresholds.{quorum_of}
use Rattle.dkg_ceremony.specs.declared.sharing.Sharing.{Sharing}
use Rattle.dkg_types.specs.declared.scheme.SchemeInfo.{SchemeInfo}
use Rattle.dkg_types.specs.declared.scheme.SchemeInfo.TheVariants.{Verifier, Member, Signer}

abbrev pub scheme_participants : SchemeInfo → List ℕ
scheme_participants (Verifier participants sharing) = participants
scheme_participants (Member participants sharing key) = participants
scheme_participants (Signer participants sharing share) = participants

abbrev pub sharing_of : SchemeInfo → Sharing
sharing_of (Verifier participants sharing) = sharing
sharing_of (Member participants sharing key) = sharing
sharing_of (Signer participants sharing share) = sharing

abbrev pub scheme_share : SchemeInfo → Option ℕ
scheme_share (Verifier participants sharing) = None
scheme_share (Member participants sharing key) = None
scheme_share (Signer participants sharing share) = Some share

-- the sharing's value at the point of a participant: its index, from 0, and one
abbrev pub value_of : SchemeInfo → (key : ℕ) → Option ℕ
value_of info key = option_map (λ index. value_at (sharing_of info).poly (index + 1)) (index_of key (scheme_participants info))

-- whether a share is a participant's, of whom this is the sharing's value; who is no participant has none
abbrev pub is_share_at : Option ℕ → Option ℕ → Bool
is_share_at share None = false
is_share_at None (Some value) = true
is_share_at (Some share) (Some value) = share_public_of share == value

-- Whether material is of one output and a node's own: as many participants as the sharing has holders, as many coefficients as their
-- quorum, the node one of them, and its share, where it has one, the sharing's value at its point.
abbrev pub is_own : (me : ℕ) → SchemeInfo → Bool
is_own me info =
    ((sharing_of info).total == length (scheme_participants info))
    && ((length (sharing_of info).poly == quorum_of (sharing_of info).total) && is_share_at (scheme_share info) (value_of info me))

-- the constant coefficient of a polynomial: the key
abbrev pub scheme_key : List ℕ → ℕ
scheme_key [] = 0
scheme_key (c ∷ cs) = c
