-- The entries that acts say, whatever the devices tell.
use Rattle.std.specs.Prelude.{◌≡◌, ◌⊎◌, ◌++◌, ◌∷◌, [], List}
use Rattle.dkg_infos.specs.declared.entry.Entry.{Entry}
use Rattle.dkg_store.specs.Acts.{Acts, Say, Do, Ask, Goes, Stops, Ended, went, stopped, broken, Held, World, Runs}

-- All of them, of whatever was read, up to this end.
abbrev pub SaysAll : {F S : Type 0} → Acts F S → S → List Entry → Type 0
SaysAll (Say line acts) end lines = (rest : List Entry) × (lines ≡ line ∷ rest) × SaysAll acts end rest
SaysAll (Do op acts) end lines = SaysAll acts end lines
SaysAll (Ask f) end lines = (h : Held) × SaysAll (f h) end lines
SaysAll (Goes its) end lines = (lines ≡ []) × (end ≡ its)
SaysAll (Stops fault) end lines = ⊥

-- .. up to this fault of their own
abbrev pub SaysUpTo : {F S : Type 0} → Acts F S → F → List Entry → Type 0
SaysUpTo (Say line acts) fault lines = (rest : List Entry) × (lines ≡ line ∷ rest) × SaysUpTo acts fault rest
SaysUpTo (Do op acts) fault lines = SaysUpTo acts fault lines
SaysUpTo (Ask f) fault lines = (h : Held) × SaysUpTo (f h) fault lines
SaysUpTo (Goes end) fault lines = ⊥
SaysUpTo (Stops its) fault lines = (lines ≡ []) × (fault ≡ its)

-- .. or the first of them
abbrev pub SaysFirst : {F S : Type 0} → Acts F S → List Entry → Type 0
SaysFirst (Say line acts) lines = (lines ≡ []) ⊎ ((rest : List Entry) × (lines ≡ line ∷ rest) × SaysFirst acts rest)
SaysFirst (Do op acts) lines = (lines ≡ []) ⊎ SaysFirst acts lines
SaysFirst (Ask f) lines = (lines ≡ []) ⊎ ((h : Held) × SaysFirst (f h) lines)
SaysFirst (Goes end) lines = lines ≡ []
SaysFirst (Stops fault) lines = lines ≡ []

abbrev pub SaysBy : {F S : Type 0} → Acts F S → Ended F S → List Entry → Type 0
SaysBy acts (went end) lines = SaysAll acts end lines
SaysBy acts (stopped fault) lines = SaysUpTo acts fault lines
SaysBy acts (broken cause) lines = SaysFirst acts lines

-- Just these were added to the transcript.
pub record Said {F S : Type 0} (acts : Acts F S) (ended : Ended F S) (old new : List Entry) : Type 0 where
  pub lines : List Entry
  pub added : new ≡ old ++ lines
  pub by : SaysBy acts ended lines

-- A RUN SAYS the entries of its acts.
abbrev pub RunsSay : Type 0 → Type 0 → Type 0
RunsSay F S = (acts : Acts F S) (ended : Ended F S) (w new : World) → Runs acts ended w new → Said acts ended w.out new.out
