-- The rarer rules of position: state sync, following, one-shot mode, and a plan that may hold a record or none.
use Rattle.std.proofs.Common.{ℕ, suc, ◌<◌, List, [], ◌∷◌, ◌≡◌, refl, Option, Some, None, Err, inl, inr, true, false, arith, lit<}
use Rattle.dkg_ceremony.specs.Dealings.{dealing_of}
use Rattle.dkg_ceremony.specs.Polynomials.{value_at}
use Rattle.dkg_ceremony.specs.declared.ceremony.DealingError.TheVariants.{UnexpectedDealer, InvalidCommitmentDegree, MismatchedReshareCommitment, InvalidDealerShare}
use Rattle.dkg_text.specs.declared.script.Anchor.{Anchor}
use Rattle.dkg_text.specs.declared.script.Anchor.TheVariants.{Absent}
use Rattle.dkg_text.specs.declared.script.BlockLine.{BlockLine}
use Rattle.dkg_text.specs.declared.script.Event.{Event}
use Rattle.dkg_text.specs.declared.script.Event.TheVariants.{Peer, Final}
use Rattle.dkg_text.specs.declared.script.Life.{Life}
use Rattle.dkg_text.specs.declared.script.Script.{Script}
use Rattle.dkg_text.specs.declared.script.SyncLine.{SyncLine}
use Rattle.dkg_script.specs.Readings.{SyncMaterial}
use Rattle.dkg_script.specs.Setting.{Setting, CutAt}
use Rattle.std.specs.Prelude.{◌==◌}
use Rattle.std.proofs.lemmas.Bool.Decides.{nat_tests}
use Rattle.dkg_script.specs.Blocks.{round_at}
use Rattle.dkg_script.specs.Position.{awaited_height_after, life_follows, is_oneshot_finished, begun, begun_before, IsLeft}
use Rattle.dkg_script.specs.Due.{IsDueNow}
use Rattle.dkg_script.specs.Promise.{with_plans}
use Rattle.dkg_script.proofs.Rounds.{round, first_info}
use Rattle.dkg_script.proofs.Worked.{script_of, setting, genesis, line, payload, life_of, cut_at, dealt}

abbrev with_start : Option Anchor → List ℕ → Option SyncLine → List Event → Life
with_start anchor held sync events = record (life_of events None) { anchor = anchor; held = held; sync = sync }

abbrev sync_at : ℕ → Option SyncLine
sync_at number = Some (record { info = payload 0 0; epoch = 0; view = number; block = number })

abbrev six_blocks : List BlockLine
six_blocks = genesis ∷ line 1 (Some 0) None ∷ line 2 (Some 1) None ∷ line 3 (Some 2) None ∷ line 4 (Some 3) None ∷ line 5 (Some 4) None ∷ []

abbrev six : List Life → Script
six lives = script_of 8 (lit< tt) six_blocks lives

abbrev two_an_epoch : List Life → Script
two_an_epoch lives = script_of 2 (lit< tt) six_blocks lives

-- WITHOUT A HELD BOUNDARY BLOCK: the life follows, so that no dealing is due
abbrev lost : Life
lost = with_start None [] None (Peer 2 dealt ∷ [])

pub lost_follows : life_follows (setting (six (lost ∷ []))) 0 lost 0 ≡ true
unfolding awaited_height_after
lost_follows = refl

-- and where it enters at a later epoch's block, it follows that epoch too
abbrev late : Life
late = with_start None [] None (Final 3 ∷ [])

pub late_follows : life_follows (setting (two_an_epoch (late ∷ []))) 0 late 1 ≡ true
unfolding awaited_height_after
late_follows = refl

pub late_begun : begun (setting (two_an_epoch (late ∷ []))) [] 0 1 ≡ 2
unfolding awaited_height_after
late_begun = refl

-- PAST THE MIDPOINT no dealing is due
abbrev passed : Life
passed = with_start None (0 ∷ []) None (Final 0 ∷ Peer 2 dealt ∷ [])

pub not_due : IsDueNow (setting (two_an_epoch (passed ∷ []))) (record { cuts = []; step = 2; written = []; recorded = []; opened = Some 0 }) → ⊥
unfolding awaited_height_after
not_due due = past due.early
  where
    past : 1 < 1 → ⊥
    past below = omega arith

-- A PLAN that holds a record: a floor at the midpoint is no reason to follow, one above it is. (The digests of the floors' blocks
-- are computed.)
abbrev floor_at : ℕ → List ℕ → SyncMaterial
floor_at height digest = record { info = first_info; epoch = 0; floor = digest }

abbrev bare : List ℕ → Life
bare held = with_start None held None []

-- AN OPENING THAT IS CUT, of a life that provides nothing, leaves what the life found: the material isn't lost
abbrev cut_bare : Life
cut_bare = record (bare (4 ∷ [])) { cut = cut_at 0 1 1 }

abbrev cut_once : Option CutAt
cut_once = Some (record { step = 0; call = 1 })

abbrev holding : List ℕ → Setting
holding digest = with_plans (setting (six (cut_bare ∷ bare (4 ∷ []) ∷ []))) (Some (floor_at 4 digest) ∷ [])

pub stays : (digest : List ℕ) → IsLeft (holding digest) 0 cut_bare cut_once (Some (floor_at 4 digest))
stays digest = inl refl

pub not_lost : (digest : List ℕ) → IsLeft (holding digest) 0 cut_bare cut_once None → ⊥
not_lost digest (inl normal) = none_is_not_some normal
  where
    none_is_not_some : None ≡ Some (floor_at 4 digest) → ⊥
    none_is_not_some e = cc
not_lost digest (inr cut) = elim cut.1 [ inl same ↦ none_is_not_some same | inr new ↦ false_is_not_true new.0 ]
  where
    none_is_not_some : None ≡ Some (floor_at 4 digest) → ⊥
    none_is_not_some e = cc

    false_is_not_true : false ≡ true → ⊥
    false_is_not_true e = cc

-- ONE-SHOT MODE: one block, delivered in the life; and a life whose source is past the last height
abbrev oneshot : List BlockLine → List Life → Script
oneshot lines lives = let plain = script_of 1 (lit< tt) lines lives in record plain { config = record plain.config { oneshot = Some (1 ∷ []) } }

abbrev shot : Life
shot = with_start None [] None (Final 0 ∷ [])

abbrev beyond : Life
beyond = with_start (Some (Absent 1)) [] None []

abbrev two_blocks : List BlockLine
two_blocks = line 0 None None ∷ line 1 (Some 0) None ∷ []

pub beyond_finished : is_oneshot_finished (setting (oneshot two_blocks (shot ∷ beyond ∷ []))) (None ∷ []) 1 beyond ≡ true
beyond_finished = refl

pub never_follows : life_follows (setting (oneshot two_blocks (shot ∷ []))) 0 shot 0 ≡ false
never_follows = refl

pub shot_begun : begun_before (setting (oneshot two_blocks (shot ∷ shot ∷ []))) (None ∷ []) 1 ≡ 0
shot_begun = refl

-- in which there is no round past epoch 0
pub no_later_round : (epoch : ℕ) → round_at (setting (oneshot two_blocks (shot ∷ []))) (suc epoch) ≡ None
unfolding round_at
no_later_round epoch = rw (later (suc epoch) (omega arith)) refl
  where
    later : (n : ℕ) → 0 < n → (n == 0) ≡ false
    later n above = grind (arith, nat_tests)

-- WHAT THE CHECKS OF A ROUND REFUSE: another player's value, another dealer, another degree, another constant
pub other_share : dealing_of (round 0) 1 2 (15 ∷ 7 ∷ 1 ∷ []) 45 ≡ Err InvalidDealerShare
unfolding dealing_of value_at
other_share = refl

pub other_dealer : dealing_of (round 0) 1 9 (15 ∷ 7 ∷ 1 ∷ []) 23 ≡ Err UnexpectedDealer
unfolding dealing_of value_at
other_dealer = refl

pub other_degree : dealing_of (round 0) 1 2 (15 ∷ 7 ∷ []) 22 ≡ Err InvalidCommitmentDegree
unfolding dealing_of value_at
other_degree = refl

pub other_constant : dealing_of (round 0) 1 2 (16 ∷ 7 ∷ 1 ∷ []) 24 ≡ Err MismatchedReshareCommitment
unfolding dealing_of value_at
other_constant = refl
