-- How a law of courses is put together from laws of their parts, and what it gives along them.
use Rattle.std.proofs.Common.{◌≡◌, List, ◌∷◌, Bool, true, false, Option, Some, None, refl}
use Rattle.std.specs.Prelude.{if◌then◌else◌}
use Rattle.std.specs.Option.{option_map_or}
use Rattle.dkg_store.specs.Acts.{Operation, World, says, does}
use Rattle.dkg_infos.specs.declared.entry.Entry.{Entry}
use Rattle.dkg_core.specs.Courses.{Course, Say, Do, CallOutside, Ask, Goes, Stops, bind, Deed, SaidEntry, DidOperation, CalledOutside, Throughout}
use Rattle.dkg_core.specs.Laws.{Law, Holds, LawKeeps}

-- one after another: what the first end in is what the next begin with
pub holds_bind : {Dir F S T : Type 0} (first : Law Dir S) (law : Law Dir T) (past : List (Deed Dir)) (course : Course Dir F S) (next : S → Course Dir F T)
    → ((past : List (Deed Dir)) (line : Entry) → first.line past line → law.line past line)
    → ((past : List (Deed Dir)) (op : Operation) → first.operation past op → law.operation past op)
    → Holds first past course → ((past : List (Deed Dir)) (end : S) → first.end past end → Holds law past (next end)) → Holds law past (bind course next)
holds_bind first law past (Say line course) next lines ops h more = (lines past line h.0, holds_bind first law (SaidEntry line ∷ past) course next lines ops h.1 more)
holds_bind first law past (Do op course) next lines ops h more = (ops past op h.0, holds_bind first law (DidOperation op ∷ past) course next lines ops h.1 more)
holds_bind first law past (CallOutside outer course) next lines ops h more = holds_bind first law (CalledOutside outer ∷ past) course next lines ops h more
holds_bind first law past (Ask f) next lines ops h more = λ held. holds_bind first law past (f held) next lines ops (h held) more
holds_bind first law past (Goes end) next lines ops h more = more past end h
holds_bind first law past (Stops fault) next lines ops h more = tt

-- either branch, knowing which
pub holds_if : {Dir F S : Type 0} (law : Law Dir S) (past : List (Deed Dir)) (b : Bool) (x y : Course Dir F S)
    → (b ≡ true → Holds law past x) → (b ≡ false → Holds law past y) → Holds law past (if b then x else y)
holds_if law past true x y one other = one refl
holds_if law past false x y one other = other refl

-- with what there is, or without
pub holds_option : {Dir F S A : Type 0} (law : Law Dir S) (past : List (Deed Dir)) (o : Option A) (f : A → Course Dir F S) (none : Course Dir F S)
    → ((a : A) → o ≡ Some a → Holds law past (f a)) → (o ≡ None → Holds law past none) → Holds law past (option_map_or f o none)
holds_option law past None f none some without = without refl
holds_option law past (Some a) f none some without = some a refl

-- a law that asks for less
pub holds_as : {Dir F S : Type 0} (first law : Law Dir S) (past : List (Deed Dir)) (course : Course Dir F S)
    → ((past : List (Deed Dir)) (line : Entry) → first.line past line → law.line past line)
    → ((past : List (Deed Dir)) (op : Operation) → first.operation past op → law.operation past op)
    → ((past : List (Deed Dir)) (end : S) → first.end past end → law.end past end) → Holds first past course → Holds law past course
holds_as first law past (Say line course) lines ops ends h = (lines past line h.0, holds_as first law (SaidEntry line ∷ past) course lines ops ends h.1)
holds_as first law past (Do op course) lines ops ends h = (ops past op h.0, holds_as first law (DidOperation op ∷ past) course lines ops ends h.1)
holds_as first law past (CallOutside outer course) lines ops ends h = holds_as first law (CalledOutside outer ∷ past) course lines ops ends h
holds_as first law past (Ask f) lines ops ends h = λ held. holds_as first law past (f held) lines ops ends (h held)
holds_as first law past (Goes end) lines ops ends h = ends past end h
holds_as first law past (Stops fault) lines ops ends h = tt

-- What a law keeps, it keeps along a course, before and after each act and within.
pub along : {Dir F S : Type 0} (law : Law Dir S) (P : World → Type 0) → LawKeeps law P → (past : List (Deed Dir)) (course : Course Dir F S) (w : World) → Holds law past course → P w
    → Throughout P course w
along law P keeps past (Say line course) w h p = (p, along law P keeps (SaidEntry line ∷ past) course (says w line) h.1 (keeps.said past w line h.0 p))
along law P keeps past (Do op course) w h p =
    (λ cause new tears. keeps.torn past cause w new op h.0 p tears, along law P keeps (DidOperation op ∷ past) course (does w op) h.1 (keeps.done past w op h.0 p))
along law P keeps past (CallOutside outer course) w h p = along law P keeps (CalledOutside outer ∷ past) course w h p
along law P keeps past (Ask f) w h p = along law P keeps past (f w.held) w (h w.held) p
along law P keeps past (Goes end) w h p = p
along law P keeps past (Stops fault) w h p = p
