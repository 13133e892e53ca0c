-- Devices that compute: both devices' content as one list, and courses played over it.
use Rattle.std.proofs.Common.{ℕ, zero, suc, List, [], ◌∷◌, ◌++◌, ◌+◌, Option, Some, None, Bool}
use Rattle.std.specs.Prelude.{◌==◌, ◌&&◌, ◌||◌, not, nat_le, filter, filter_map, fold, if◌then◌else◌, ◌-◌}
use Rattle.std.specs.Option.{option_map_or}
use Rattle.std.specs.FinMap.{put, empty}
use Rattle.dkg_values.specs.Rising.{with_pair}
use Rattle.dkg_journal.specs.Records.{SectionEntry}
use Rattle.dkg_infos.specs.declared.entry.Entry.{Entry}
use Rattle.dkg_values.specs.declared.name.Name.{Name}
use Rattle.dkg_values.specs.declared.name.Name.TheVariants.{Plan}
use Rattle.dkg_journal.specs.Operations.{Opens, Journaled, after_operation, opened_names}
use Rattle.dkg_store.specs.Acts.{Operation, OnDisk, Changes, Held, device_calls, notes, plan}
use Rattle.dkg_core.specs.Courses.{Course, Say, Do, CallOutside, Ask, Goes, Stops, Outer}
use Rattle.dkg_secrets.specs.Keys.{key_cmp}
use Rattle.dkg_store.specs.Noted.{Note, noted_ack, noted_log}
use Rattle.dkg_store.specs.Pairs.{Dealing, recorded_dealing}
use Rattle.dkg_store.specs.Recorded.{Pair}
use Rattle.dkg_secrets.specs.declared.secrets.SecretOp.{SecretOp}
use Rattle.dkg_secrets.specs.declared.secrets.SecretOp.TheVariants.{PutShare, PutSeed, PutDealing, Prune}
use Rattle.dkg_core.specs.Seen.{Seen}

-- secrets stand behind all sections: of a kind, an epoch and what there is
abbrev pub secrets : ℕ
secrets = 1208925819614629174706176

abbrev pub secret : (epoch : ℕ) → List ℕ → SectionEntry
secret epoch content = (secrets + epoch, content)

abbrev pub is_secret : SectionEntry → Bool
is_secret e = nat_le secrets e.0

abbrev pub changed : SecretOp → List SectionEntry → List SectionEntry
changed (PutShare epoch share) es = es ++ secret epoch (10 ∷ share ∷ []) ∷ []
changed (PutSeed epoch seed) es = es ++ secret epoch (11 ∷ seed) ∷ []
changed (PutDealing epoch dealer private) es = es ++ secret epoch (12 ∷ dealer ∷ private ∷ []) ∷ []
changed (Prune min) es = filter (λ e. not (is_secret e) || nat_le (secrets + min) e.0) es

abbrev pub journal_of : Held → List SectionEntry
journal_of h = filter (λ (e : SectionEntry). not (is_secret e)) (notes h)

abbrev pub with_journaled : Journaled → Held → Held
with_journaled j h = record { journaled = j; secrets = h.secrets }

-- what an operation leaves that is done
abbrev pub done : Operation → Held → Held
done (OnDisk (Opens calls)) h =
    with_journaled (record { entries = notes h; plan = plan h; names = opened_names (journal_of h) h.journaled.names }) h
done (OnDisk op) h = with_journaled (after_operation op h.journaled) h
done (Changes op) h = with_journaled (record { entries = changed op (notes h); plan = plan h; names = h.journaled.names }) h

-- WHAT IS SEEN

abbrev pub share_in : SectionEntry → Option (ℕ × ℕ)
share_in (section, kind ∷ share ∷ []) = if nat_le secrets section && (kind == 10) then Some (section - secrets, share) else None
share_in e = None

abbrev pub seed_in : SectionEntry → Option (ℕ × List ℕ)
seed_in (section, kind ∷ seed) = if nat_le secrets section && (kind == 11) then Some (section - secrets, seed) else None
seed_in e = None

abbrev pub private_in : SectionEntry → Option ((ℕ × ℕ) × ℕ)
private_in (section, kind ∷ dealer ∷ private ∷ []) = if nat_le secrets section && (kind == 12) then Some ((section - secrets, dealer), private) else None
private_in e = None

abbrev pub last_private : List SectionEntry → (epoch dealer : ℕ) → Option ℕ
last_private es epoch dealer = fold (λ found p. if (p.0.0 == epoch) && (p.0.1 == dealer) then Some p.1 else found) None (filter_map private_in es)

abbrev pub with_dealing : List SectionEntry → List Pair → Dealing → List Pair
with_dealing es pairs d = option_map_or (λ private. put key_cmp d.key (d.public, private) pairs) (last_private es d.key.0 d.key.1) pairs

abbrev pub dealings_in : List SectionEntry → List SectionEntry → List Pair
dealings_in es journal = fold (with_dealing es) [] (filter_map recorded_dealing journal)

abbrev pub notes_in : {V : Type 0} → (SectionEntry → Option (Note V)) → List SectionEntry → List ((ℕ × ℕ) × V)
notes_in note_of journal = fold (λ m n. put key_cmp n.0 n.1 m) [] (filter_map note_of journal)

abbrev pub by_epoch : {V : Type 0} → List (ℕ × V) → List (ℕ × V)
by_epoch pairs = fold (λ m p. with_pair p m) [] pairs

abbrev pub mirrored : Held → Seen
mirrored h = record {
  dealings = dealings_in (notes h) (journal_of h);
  acks = notes_in noted_ack (journal_of h);
  logs = notes_in noted_log (journal_of h);
  shares = by_epoch (filter_map share_in (notes h));
  seeds = by_epoch (filter_map seed_in (notes h));
  plan = plan h;
}

-- devices that hold these entries (secrets among them), in files of these names
abbrev pub holding : List SectionEntry → List Name → Held
holding es names = record { journaled = record { entries = es; plan = None; names = names }; secrets = record { shares = empty; seeds = empty; privates = empty } }

abbrev pub nothing : Held
nothing = holding [] []

abbrev pub holding_plan : List ℕ → Held
holding_plan bytes = with_journaled (record { entries = []; plan = Some bytes; names = Plan ∷ [] }) nothing

-- PLAYING COURSES

-- what a course told and did, the number of its calls, what it asked outside, and what it ended in
pub record Played (Dir F S : Type 0) : Type 0 where
  pub lines : List Entry
  pub operations : List Operation
  pub calls : ℕ
  pub outer : List (Outer Dir)
  pub end : Option (S × Held)
  pub fault : Option F

abbrev pub played : {Dir F S : Type 0} → Course Dir F S → Held → Played Dir F S
played (Say line course) h = let rest = played course h in record rest { lines = line ∷ rest.lines }
played (Do op course) h = let rest = played course (done op h) in record rest { operations = op ∷ rest.operations; calls = device_calls op h + rest.calls }
played (CallOutside call course) h = let rest = played course h in record rest { outer = call ∷ rest.outer }
played (Ask f) h = played (f h) h
played (Goes end) h = record { lines = []; operations = []; calls = 0; outer = []; end = Some (end, h); fault = None }
played (Stops fault) h = record { lines = []; operations = []; calls = 0; outer = []; end = None; fault = Some fault }

-- what is compared
pub record Outcome (F : Type 0) : Type 0 where
  pub lines : List Entry
  pub operations : List Operation
  pub calls : ℕ
  pub fault : Option F

abbrev pub outcome_of : {Dir F S : Type 0} → Played Dir F S → Outcome F
outcome_of p = record { lines = p.lines; operations = p.operations; calls = p.calls; fault = p.fault }

-- where a state came of a course, its step
abbrev pub after_end : {Dir F S : Type 0} → F → (S → Course Dir F S) → Option (S × Held) → Played Dir F S
after_end none next None = record { lines = []; operations = []; calls = 0; outer = []; end = None; fault = Some none }
after_end none next (Some p) = played (next p.0) p.1

-- the devices after the first operations of a course
abbrev pub held_after : {Dir F S : Type 0} → (operations : ℕ) → Course Dir F S → Held → Held
held_after n (Say line course) h = held_after n course h
held_after zero (Do op course) h = h
held_after (suc n) (Do op course) h = held_after n course (done op h)
held_after n (CallOutside call course) h = held_after n course h
held_after n (Ask f) h = held_after n (f h) h
held_after n (Goes end) h = h
held_after n (Stops fault) h = h

-- what the devices hold within the step of one more event
abbrev pub held_within : {Dir F S : Type 0} → (operations : ℕ) → (S → Course Dir F S) → Option (S × Held) → Held
held_within n next None = nothing
held_within n next (Some p) = held_after n (next p.0) p.1
