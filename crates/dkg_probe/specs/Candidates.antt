-- A floor that waits for the block that begins its epoch, and who may have it.
use Rattle.std.specs.Prelude.{◌≡◌, ℕ, ◌&&◌, not, Bool, true, List, [], ◌∷◌, ◌++◌, map, Option, Some, None}
use Rattle.std.specs.BTreeMap.{is_at}
use Rattle.std.specs.BTreeSet.{BTreeSet, contains}
use Rattle.std.specs.List.{list_any}
use Rattle.std.specs.Ordering.{nat_cmp}
use Rattle.dkg_types.specs.declared.finalization.Finalization.{Finalization}

-- a peer, and the finalization that it gave of the block
abbrev pub Candidate : Type 0
Candidate = ℕ × Finalization

-- The height of the block, the floor, the candidate that was asked for the block, and the others in the order of their arrival.
pub record Awaiting : Type 0 where
  pub height : ℕ
  pub floor : Finalization
  pub asked : Option Candidate
  pub others : List Candidate

abbrev pub all_candidates : Option Candidate → List Candidate → List Candidate
all_candidates None others = others
all_candidates (Some c) others = c ∷ others

abbrev pub candidate_keys : Option Candidate → List Candidate → List ℕ
candidate_keys asked others = map (λ c. c.0) (all_candidates asked others)

abbrev pub has_peer : (peer : ℕ) → List ℕ → Bool
has_peer peer peers = list_any (is_at (nat_cmp peer)) peers

abbrev pub is_candidate : Awaiting → (peer : ℕ) → Bool
is_candidate a peer = has_peer peer (candidate_keys a.asked a.others)

-- no peer twice
abbrev pub are_apart : List ℕ → Bool
are_apart [] = true
are_apart (peer ∷ peers) = not (has_peer peer peers) && are_apart peers

-- what a floor that waits keeps: each peer is a candidate once, and the set has just these peers
pub record IsKept (asked : Option Candidate) (others : List Candidate) (peers : BTreeSet ℕ) : Type 0 where
  pub apart : are_apart (candidate_keys asked others) ≡ true
  pub members : (peer : ℕ) → contains nat_cmp peers peer ≡ has_peer peer (candidate_keys asked others)

abbrev pub new_awaiting : (height : ℕ) → Finalization → Awaiting
new_awaiting height floor = record { height = height; floor = floor; asked = None; others = [] }

abbrev pub with_candidate : Awaiting → Candidate → Awaiting
with_candidate a c = record a { others = a.others ++ c ∷ [] }

abbrev pub first_candidate : List Candidate → Option Candidate
first_candidate [] = None
first_candidate (c ∷ cs) = Some c

abbrev pub later_of : List Candidate → List Candidate
later_of [] = []
later_of (c ∷ cs) = cs

-- the asked candidate is dropped, and the next one is asked
abbrev pub next_asked : Awaiting → Awaiting
next_asked a = record a { asked = first_candidate a.others; others = later_of a.others }
