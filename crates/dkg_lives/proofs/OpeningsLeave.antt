-- What a node's opening of the form leaves on the devices of dealings, wherever it ends: those from before, and all of them of the epoch that it starts in and of the one before on,
-- whatever blocks its source has.
use Rattle.std.proofs.Common.{◌≡◌, ◌⊎◌, inl, inr, ◌<◌, ◌≤◌, ℕ, Bool, true, false, cond, nat_le, List, [], ◌∷◌, ◌++◌, map, Option, Some, None, refl, sym, ◌∙◌, ap, subst, arith, append_assoc, append-nil}
use Rattle.std.specs.Prelude.{◌+◌, ◌-◌}
use Rattle.std.specs.Option.{option_map_or}
use Rattle.std.specs.FinMap.{get, get-retain_keys}
use Rattle.std.proofs.lemmas.Bool.Decides.{nat_tests}
use Rattle.std.proofs.lemmas.List.{append_cancel_left}
use Rattle.dkg_values.specs.Rising.{lookup}
use Rattle.dkg_ceremony.specs.Schedule.{epoch_of}
use Rattle.dkg_journal.specs.Operations as of_journal
use Rattle.dkg_journal.specs.Operations.{Bars, Opens, Prunes, Journaled, InPart}
use Rattle.dkg_journal.specs.Records.{SectionEntry, from_section}
use Rattle.dkg_secrets.proofs.Map.{exact_keys}
use Rattle.dkg_secrets.specs.declared.secrets.SecretOp.TheVariants.{PutShare}
use Rattle.dkg_store.specs.Noted.{Notes, logs_in}
use Rattle.dkg_store.specs.declared.recorded_log.RecordedLog.{RecordedLog}
use Rattle.dkg_store.proofs.Pruned.{logs_from}
use Rattle.dkg_infos.specs.declared.entry.Entry.{Entry}
use Rattle.dkg_infos.specs.declared.entry.Entry.TheVariants.{Opened}
use Rattle.dkg_infos.specs.declared.fault.Fault.{Fault}
use Rattle.dkg_infos.specs.declared.fault.Fault.TheVariants.{HeightRange}
use Rattle.dkg_infos.specs.declared.info.EpochInfo.{EpochInfo}
use Rattle.dkg_store.specs.Acts.{World, Held, OnDisk, Changes, Ended, went, stopped, broken, says, does, notes, IsDiskLeft}
use Rattle.dkg_store.specs.Pairs.{Pairs, IsWhole}
use Rattle.dkg_store.specs.Recorded.{restored_of}
use Rattle.dkg_store.proofs.Acts.{along_runs}
use Rattle.dkg_core.specs.Courses.{Course, Say, Do, Stops, Throughout, EndsSo, on_devices}
use Rattle.dkg_core.specs.Fixed.{Fixed, Material, OneShot, start}
use Rattle.dkg_core.specs.Live.{Live, NodeStop, awaited_height}
use Rattle.dkg_core.specs.Sources.{startup}
use Rattle.dkg_core.specs.Setup as s
use Rattle.dkg_core.specs.Plans as p
use Rattle.dkg_core.specs.Core.{opening, opens_in, begun_life}
use Rattle.dkg_core.specs.Node.{node_opening}
use Rattle.dkg_core.specs.Behind.{RunsBehind}
use Rattle.dkg_core.specs.Heard.{recovered_in, KeepsFrom}
use Rattle.dkg_core.specs.Forms.{IsForm}
use Rattle.dkg_core.specs.Seen.{Seen}
use Rattle.dkg_core.specs.Endings.{first_epoch}
use Rattle.dkg_core.specs.Transcripts.{AddsDeeds}
use Rattle.dkg_core.proofs.Behind.{openings_run_behind}
use Rattle.dkg_core.proofs.Lasting.{setups_keep}
use Rattle.dkg_core.proofs.Lines.{runs_add_deeds}
use Rattle.dkg_core.proofs.Running.{along_as}
use Rattle.dkg_core.proofs.Upkeep.{along_if}
use Rattle.dkg_core.proofs.Walking as walk
use Rattle.dkg_lives.proofs.NoOthers.{IsNoOther, commits, prunes, stays}

-- what is left of an operation that changes no entry
left_same : (op : of_journal.JournalOperation) (j new : Journaled) → (of_journal.after_operation op j).entries ≡ j.entries → (InPart op j new → new.entries ≡ j.entries) → IsDiskLeft op j new → new.entries ≡ j.entries
left_same op j new kept part (inl is) = ap (λ (x : Journaled). x.entries) is
left_same op j new kept part (inr (inl is)) = ap (λ (x : Journaled). x.entries) is ∙ kept
left_same op j new kept part (inr (inr is)) = part is

-- ALONG AN OPENING of the form: what its one setup keeps, and what the same entries and secrets keep
module _ {Dir : Type 0} (c : Fixed Dir) (form : IsForm c) (P : World → Type 0) (said : (w : World) (line : Entry) → P w → P (says w line))
    (same : (w new : World) → notes new.held ≡ notes w.held → new.held.secrets ≡ w.held.secrets → P w → P new)
    (sets_up : (st : Live Dir) (w : World) → epoch_of c.blocks_per_epoch (awaited_height st) ≡ first_epoch c → P w → Throughout P (s.setup c None st) w) where
  behind : (op : of_journal.JournalOperation) → ((j : Journaled) → (of_journal.after_operation op j).entries ≡ j.entries) → ((j new : Journaled) → InPart op j new → new.entries ≡ j.entries)
      → (course : Course Dir Fault (Live Dir)) (w : World) → P w → (P (does w (OnDisk op)) → Throughout P course (does w (OnDisk op))) → Throughout P (Do (OnDisk op) course) w
  behind op kept part course w q next = (
    λ cause new tears. same w new (left_same op w.held.journaled new.held.journaled (kept w.held.journaled) (part w.held.journaled new.held.journaled) tears.torn.1) tears.torn.0 q,
    next (same w (does w (OnDisk op)) (kept w.held.journaled) refl q),
  )

  abbrev next : Live Dir → Option (Material Dir) → Course Dir Fault (Live Dir)
  next st found = p.stays_in_range c (p.resolves_plan c (p.starts_from c st) found)

  goes : (st : Live Dir) (w : World) → P w → Throughout P (next st None) w
  goes st w q = along_if P w (option_map_or (λ t. s.is_past_range c (t.height + 1)) (start c) false) (Stops HeightRange) (p.starts_from c st None) (λ e. q)
      (λ e. sets_up (record st { tip = startup c.source.anchor None }) w refl q)

  opens : (st : Live Dir) (w : World) → P w → Throughout P (opens_in c c.oneshot st) w
  opens st w q = subst (λ (o : Option (OneShot Dir)). Throughout P (opens_in c o st) w) (sym form.reshare)
      (subst (λ (m : Option (Material Dir)). Throughout P (p.finds_material c m (next st)) w) (sym form.bare)
      (subst (λ (found : Option (List ℕ)). Throughout P (p.reads_plan c found (next st)) w) (sym (form.unplanned w.held)) (goes st w q)))

  abbrev restores : Course Dir Fault (Live Dir)
  restores = s.looks c (λ seen. Say (Opened c.life (map restored_of seen.dealings)) (opens_in c c.oneshot (begun_life seen)))

  pub opening_walks : (w : World) → P w → Throughout P (opening c) w
  opening_walks w q =
      behind Bars (λ j. refl) (λ j new part. absurd part) (Do (OnDisk (Opens c.opening_calls)) restores) w q (λ q.
      behind (Opens c.opening_calls) (λ j. refl) (λ j new part. part.0) restores (does w (OnDisk Bars)) q (λ q.
      let at : World = does (does w (OnDisk Bars)) (OnDisk (Opens c.opening_calls)) in
      let line : Entry = Opened c.life (map restored_of (c.seen at.held).dealings) in
      (q, opens (begun_life (c.seen at.held)) (says at line) (said at line q))))

module _ {Dir : Type 0} (c : Fixed Dir) (form : IsForm c) (w : World) where
  abbrev m0 : Pairs
  m0 = recovered_in w.held

  abbrev None_own : ℕ × ℕ → List ℕ × ℕ → Type 0
  None_own key pair = ⊥

  abbrev P : World → Type 0
  P x = IsNoOther m0 None_own x

  sets_no_other : (st : Live Dir) (x : World) → epoch_of c.blocks_per_epoch (awaited_height st) ≡ first_epoch c → P x → Throughout P (s.setup c None st) x
  sets_no_other st x is q =
      walk.setup c P (λ x line aside q. record { whole = q.whole; gives = q.gives }) (epoch_of c.blocks_per_epoch (awaited_height st) - 1)
      (λ info at x q. commits m0 None_own info (s.seed_for c info.epoch (lookup info.epoch (c.seen x.held).seeds)) (s.recovered_share c (c.seen x.held) info) at x q)
      (λ min low at x q. prunes m0 None_own min at x q) None st x (omega arith) q

  no_other : IsWhole (notes w.held) w.held.secrets → Throughout P (opening c) w
  no_other whole = opening_walks c form P (λ x line q. record { whole = q.whole; gives = q.gives }) (λ x new is_es is_t q. stays m0 None_own x new is_es is_t q) sets_no_other w
      (record { whole = whole; gives = λ key pair got. inl got })

  abbrev most : ℕ
  most = first_epoch c - 1

  abbrev K : World → Type 0
  K x = KeepsFrom most w.held x

  same_given : (x new : World) → notes new.held ≡ notes x.held → new.held.secrets ≡ x.held.secrets → recovered_in new.held ≡ recovered_in x.held
  same_given x new is_es is_t = rw (is_es, is_t) refl

  sets_kept : (st : Live Dir) (x : World) → epoch_of c.blocks_per_epoch (awaited_height st) ≡ first_epoch c → K x → Throughout K (s.setup c None st) x
  sets_kept st x is q =
      along_as (KeepsFrom (epoch_of c.blocks_per_epoch (awaited_height st) - 1) x.held) K (λ new kept key above. kept key (subst (λ (n : ℕ). n - 1 ≤ key.0) (sym is) above) ∙ q key above)
      (s.setup c None st) x (setups_keep c None st x)

  keeps : Throughout K (opening c) w
  keeps = opening_walks c form K (λ x line q. q) (λ x new is_es is_t q key above. ap (λ (m : Pairs). get m key) (same_given x new is_es is_t) ∙ q key above) sets_kept w (λ key above. refl)

  -- ITS LOGS: those from before, without some of epochs that are pruned

  abbrev IsLogLeft : World → (key : ℕ × ℕ) → Type 0
  IsLogLeft x key = (get (logs_in (notes x.held)) key ≡ get (logs_in (notes w.held)) key) ⊎ ((key.0 < most) × (get (logs_in (notes x.held)) key ≡ None))

  abbrev L : World → Type 0
  L x = (key : ℕ × ℕ) → IsLogLeft x key

  same_logs : (x new : World) → notes new.held ≡ notes x.held → L x → L new
  same_logs x new is_es q key = elim (q key) [
    | inl is ↦ inl (ap (λ (es : List SectionEntry). get (logs_in es) key) is_es ∙ is)
    | inr none ↦ inr (none.0, ap (λ (es : List SectionEntry). get (logs_in es) key) is_es ∙ none.1)
  ]

  from_logs : (min : ℕ) → min ≤ most → (x new : World) → notes new.held ≡ from_section min (notes x.held) → L x → L new
  from_logs min low x new is_es q key = by_test (nat_le min key.0) refl
    where
      under : (a b : ℕ) → nat_le a b ≡ false → b < a
      under a b e = grind (arith, nat_tests)

      at_key : get (logs_in (notes new.held)) key ≡ cond (nat_le min key.0) (get (logs_in (notes x.held)) key) None
      at_key = ap (λ (es : List SectionEntry). get (logs_in es) key) is_es ∙ ap (λ (m : Notes RecordedLog). get m key) (logs_from min (notes x.held))
          ∙ get-retain_keys (logs_in (notes x.held)) (λ (x : ℕ × ℕ). nat_le min x.0) key (λ x tied. ap (λ (y : ℕ × ℕ). nat_le min y.0) (sym (exact_keys key x tied)))

      by_test : (t : Bool) → nat_le min key.0 ≡ t → IsLogLeft new key
      by_test true is =
          let same = at_key ∙ ap (λ (t : Bool). cond t (get (logs_in (notes x.held)) key) None) is in
          elim (q key) [
            | inl was ↦ inl (same ∙ was)
            | inr none ↦ inr (none.0, same ∙ none.1)
          ]
      by_test false is = inr (
        (let below = under min key.0 is in omega (arith, below, low)),
        at_key ∙ ap (λ (t : Bool). cond t (get (logs_in (notes x.held)) key) None) is,
      )

  logs_commits : (info : EpochInfo Dir) (seed : List ℕ) (share : Option ℕ) (st : Live Dir) (x : World) → L x → Throughout {Dir = Dir} L (s.commits info seed share st) x
  logs_commits info seed None st x q = (λ cause new tears. same_logs x new (ap (λ (j : Journaled). j.entries) tears.torn.0) q, (q, q))
  logs_commits info seed (Some share) st x q = (
    λ cause new tears. same_logs x new (ap (λ (j : Journaled). j.entries) tears.torn.0) q,
    (λ cause new tears. same_logs (does x (Changes (PutShare info.epoch share))) new (ap (λ (j : Journaled). j.entries) tears.torn.0) q, (q, q)),
  )

  logs_prune : (min : ℕ) → min ≤ most → (st : Live Dir) (x : World) → L x → Throughout L (s.prunes min st) x
  logs_prune min low st x q =
      let done : L (does x (OnDisk (Prunes min))) = from_logs min low x (does x (OnDisk (Prunes min))) refl q in
      (λ cause new tears. left new tears.torn.1, (λ cause new tears. same_logs (does x (OnDisk (Prunes min))) new (ap (λ (j : Journaled). j.entries) tears.torn.0) done, done))
    where
      left : (new : World) → IsDiskLeft (Prunes min) x.held.journaled new.held.journaled → L new
      left new (inl is) = same_logs x new (ap (λ (j : Journaled). j.entries) is) q
      left new (inr (inl is)) = from_logs min low x new (ap (λ (j : Journaled). j.entries) is) q
      left new (inr (inr part)) = let under = part.1 in from_logs part.0 (omega (arith, under, low)) x new (ap (λ (j : Journaled). j.entries) part.2) q

  logs_before : Throughout L (opening c) w
  logs_before = opening_walks c form L (λ x line q. q) (λ x new is_es is_t q. same_logs x new is_es q)
      (λ st x is q. walk.setup c L (λ x line aside q. q) most
      (λ info at x q. logs_commits info (s.seed_for c info.epoch (lookup info.epoch (c.seen x.held).seeds)) (s.recovered_share c (c.seen x.held) info) at x q)
      (λ min low at x q. logs_prune min low at x q) None st x (less (epoch_of c.blocks_per_epoch (awaited_height st)) (first_epoch c) is) q) w (λ key. inl refl)
    where
      less : (a b : ℕ) → a ≡ b → a - 1 ≤ b - 1
      less a b is = omega (arith, is)

  -- AN OPENING THAT SAID NOTHING left what the devices give back
  longer : (x : Entry) (front back : List Entry) → w.out ≡ (front ++ x ∷ []) ++ back → front ≡ w.out → ⊥
  longer x front back is same = no_more x back (append_cancel_left w.out (x ∷ back) [] (sym (is ∙ append_assoc front (x ∷ []) back ∙ ap (λ (ls : List Entry). ls ++ (x ∷ back)) same) ∙ sym (append-nil w.out)))
    where
      no_more : (x : Entry) (xs : List Entry) → x ∷ xs ≡ [] → ⊥
      no_more x xs e = cc

  abbrev opened : World
  opened = does (does w (OnDisk Bars)) (OnDisk (Opens c.opening_calls))

  abbrev seen : Seen
  seen = c.seen opened.held

  abbrev first_line : Entry
  first_line = Opened c.life (map restored_of seen.dealings)

  said_more : (half : Ended Fault (Live Dir)) (new : World) → EndsSo (opens_in c c.oneshot (begun_life seen)) half (says opened first_line) new → new.out ≡ w.out → ⊥
  said_more half new run silent =
      let adds : AddsDeeds (opens_in c c.oneshot (begun_life seen)) half (says opened first_line) new = runs_add_deeds (opens_in c c.oneshot (begun_life seen)) half (says opened first_line) new run in
      longer first_line w.out adds.added (sym silent ∙ adds.out) refl

  unsaid : (half : Ended Fault (Live Dir)) (new : World) → EndsSo (opening c) half w new → new.out ≡ w.out → recovered_in new.held ≡ recovered_in w.held
  unsaid (went end) new run silent = absurd (said_more (went end) new run silent)
  unsaid (stopped fault) new run silent = absurd (said_more (stopped fault) new run silent)
  unsaid (broken cause) new (inl tears) silent =
      same_given w new (left_same Bars w.held.journaled new.held.journaled refl (λ part. absurd part) tears.torn.1) tears.torn.0
  unsaid (broken cause) new (inr (inl tears)) silent =
      same_given w new (left_same (Opens c.opening_calls) w.held.journaled new.held.journaled refl (λ part. part.0) tears.torn.1) tears.torn.0
  unsaid (broken cause) new (inr (inr (inl none))) silent = ap (λ (x : World). recovered_in x.held) none.1
  unsaid (broken cause) new (inr (inr (inr run))) silent = absurd (said_more (broken cause) new run silent)

  -- A NODE'S OPENING

  module _ (ended : Ended NodeStop (Live Dir)) (new : World) (run : EndsSo (node_opening c) ended w new) where
    abbrev half : RunsBehind (opening c) ended w new
    half = openings_run_behind c ended w new run

    pub opening_keeps : KeepsFrom (first_epoch c - 1) w.held new
    opening_keeps = subst (λ (h : Held). KeepsFrom most w.held (record new { held = h })) (sym half.held) (along_runs K (on_devices (opening c)) half.half w half.mid keeps half.run)

    left : IsWhole (notes w.held) w.held.secrets → IsNoOther m0 None_own half.mid
    left whole = along_runs P (on_devices (opening c)) half.half w half.mid (no_other whole) half.run

    pub opening_whole : IsWhole (notes w.held) w.held.secrets → IsWhole (notes new.held) new.held.secrets
    opening_whole whole = subst (λ (h : Held). IsWhole (notes h) h.secrets) (sym half.held) (left whole).whole

    pub opening_gives : IsWhole (notes w.held) w.held.secrets → (key : ℕ × ℕ) (pair : List ℕ × ℕ) → get (recovered_in new.held) key ≡ Some pair → get (recovered_in w.held) key ≡ Some pair
    opening_gives whole key pair got = elim ((left whole).gives key pair (subst (λ (h : Held). get (recovered_in h) key ≡ Some pair) half.held got)) [
      | inl was ↦ was
      | inr none ↦ absurd none
    ]

    logs_left : L new
    logs_left key = subst (λ (h : Held). IsLogLeft (record new { held = h }) key) (sym half.held) (along_runs L (on_devices (opening c)) half.half w half.mid logs_before half.run key)

    pub opening_logs : (key : ℕ × ℕ) (log : RecordedLog) → get (logs_in (notes new.held)) key ≡ Some log → get (logs_in (notes w.held)) key ≡ Some log
    opening_logs key log got = elim (logs_left key) [
      | inl same ↦ sym same ∙ got
      | inr none ↦ absurd (let no : ◌≡◌ {A = Option RecordedLog} None (Some log) = sym none.1 ∙ got in cc)
    ]

    -- .. and of the epoch before that in which it starts, and of later ones, all of them
    pub opening_notes : (key : ℕ × ℕ) → first_epoch c - 1 ≤ key.0 → get (logs_in (notes new.held)) key ≡ get (logs_in (notes w.held)) key
    opening_notes key high = elim (logs_left key) [
      | inl same ↦ same
      | inr none ↦ absurd (let low = none.0 in omega (arith, low, high))
    ]

    pub opening_unsaid : new.out ≡ w.out → recovered_in new.held ≡ recovered_in w.held
    opening_unsaid silent =
        let adds : AddsDeeds (opening c) half.half w half.mid = runs_add_deeds (opening c) half.half w half.mid half.run in
        ap (λ (h : Held). recovered_in h) half.held ∙ unsaid half.half half.mid half.run
        (adds.out ∙ ap (λ (ls : List Entry). w.out ++ ls) (none_of adds.added half.lines (append_cancel_left w.out (adds.added ++ half.lines) []
        (sym (half.out ∙ ap (λ (ls : List Entry). ls ++ half.lines) adds.out ∙ append_assoc w.out adds.added half.lines) ∙ silent ∙ sym (append-nil w.out)))) ∙ append-nil w.out)
      where
        none_of : (xs ys : List Entry) → xs ++ ys ≡ [] → xs ≡ []
        none_of [] ys e = refl
        none_of (x ∷ xs) ys e = absurd (no_more x (xs ++ ys) e)
          where
            no_more : (x : Entry) (zs : List Entry) → x ∷ zs ≡ [] → ⊥
            no_more x zs e = cc
