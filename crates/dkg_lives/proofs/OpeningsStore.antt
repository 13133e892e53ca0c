-- Seeds and shares that are stored stay what they are, of the epoch that a life of the form awaits and of the one before on, over an opening, whatever blocks its source has, which
-- offers nothing.
use Rattle.std.proofs.Common.{◌≡◌, inl, inr, ◌≤◌, ℕ, false, List, [], ◌∷◌, ◌++◌, map, Option, Some, None, refl, sym, ◌∙◌, ap, subst, arith, append_assoc, append-nil}
use Rattle.std.specs.Prelude.{◌+◌, ◌-◌}
use Rattle.std.specs.List.{AllByRecursion}
use Rattle.std.specs.Option.{option_map_or, option_or}
use Rattle.std.specs.FinMap as maps
use Rattle.std.specs.FinMap.{FinMap, get, nat_cmp-IsAntisymmetric}
use Rattle.std.specs.Ordering.{nat_cmp}
use Rattle.std.specs.Cmp.{nat_cmp_total}
use Rattle.dkg_values.specs.Rising.{lookup}
use Rattle.dkg_journal.specs.Operations as of_journal
use Rattle.dkg_journal.specs.Operations.{Bars, Opens}
use Rattle.dkg_infos.specs.declared.entry.Entry.{Entry}
use Rattle.dkg_infos.specs.declared.entry.Entry.TheVariants.{Offer, Opened}
use Rattle.dkg_infos.specs.declared.fault.Fault.{Fault}
use Rattle.dkg_infos.specs.declared.fault.Fault.TheVariants.{HeightRange}
use Rattle.dkg_infos.specs.declared.info.EpochInfo.{EpochInfo}
use Rattle.dkg_secrets.specs.Keys.{StaysOrGoes}
use Rattle.dkg_secrets.specs.Secrets.{Secrets, Tries, after}
use Rattle.dkg_secrets.specs.declared.secrets.SecretOp.TheVariants.{PutShare, PutSeed, Prune}
use Rattle.dkg_secrets.proofs.Map.{same_key, get_here, get_other}
use Rattle.dkg_secrets.proofs.Tried.{all_done}
use Rattle.dkg_store.specs.Acts.{World, Held, OnDisk, Changes, Ended, says, does}
use Rattle.dkg_store.specs.Recorded.{restored_of}
use Rattle.dkg_store.proofs.Acts.{along_runs}
use Rattle.dkg_core.specs.Behind.{IsAside, RunsBehind}
use Rattle.dkg_core.specs.Courses.{Course, Say, Do, Stops, Throughout, EndsSo, on_devices}
use Rattle.dkg_core.specs.Core.{opening, opens_in, begun_life}
use Rattle.dkg_core.specs.Fixed.{Fixed, Material, OneShot, start}
use Rattle.dkg_core.specs.Forms.{IsForm}
use Rattle.dkg_core.specs.Live.{Live, NodeStop}
use Rattle.dkg_core.specs.Node.{node_opening}
use Rattle.dkg_core.specs.Plans as p
use Rattle.dkg_core.specs.Setup as s
use Rattle.dkg_core.specs.Sources.{startup}
use Rattle.dkg_core.specs.Storing.{ReadsSecrets, KeepsSeeds, KeepsShares}
use Rattle.dkg_core.specs.Endings.{first_epoch}
use Rattle.dkg_core.proofs.Behind.{openings_run_behind}
use Rattle.dkg_core.proofs.Storing.{looked_up}
use Rattle.dkg_core.proofs.Upkeep.{along_if}
use Rattle.dkg_core.proofs.Walking as walk

some_is : {A : Type 0} (a b : A) → ◌≡◌ {A = Option A} (Some a) (Some b) → a ≡ b
some_is a b e = cc

-- LINES that offer nothing

abbrev pub IsUnoffered : Entry → Type 0
IsUnoffered (Offer epoch player public private) = ⊥
IsUnoffered line = Unit {0}

pub aside_unoffered : (line : Entry) → IsAside line → IsUnoffered line
aside_unoffered (Offer epoch player public private) aside = aside
aside_unoffered line aside = tt

pub all_joined : {A : Type 0} (P : A → Type 0) (xs ys : List A) → AllByRecursion P xs → AllByRecursion P ys → AllByRecursion P (xs ++ ys)
all_joined P [] ys front back = back
all_joined P (x ∷ xs) ys front back = (front.0, all_joined P xs ys front.1 back)

all_aside : (lines : List Entry) → AllByRecursion IsAside lines → AllByRecursion IsUnoffered lines
all_aside [] all = tt
all_aside (line ∷ lines) all = (aside_unoffered line all.0, all_aside lines all.1)

-- WHAT IS STILL HELD, from an epoch on

module _ {V : Type 0} (most : ℕ) (held : FinMap nat_cmp V) where
  abbrev Still : FinMap nat_cmp V → Type 0
  Still now = (epoch : ℕ) (value : V) → most ≤ epoch → get held epoch ≡ Some value → get now epoch ≡ Some value

  still_same : (old new : FinMap nat_cmp V) → new ≡ old → Still old → Still new
  still_same old new same was epoch value above got = ap (λ (m : FinMap nat_cmp V). get m epoch) same ∙ was epoch value above got

  -- a value is put that is the stored one, if there is one
  still_put : (old new : FinMap nat_cmp V) (at : ℕ) (value : V) → ((stored : V) → get old at ≡ Some stored → value ≡ stored) → new ≡ maps.insert old at value → Still old → Still new
  still_put old new at value fits is was epoch stored above got = elim (same_key nat_cmp_total nat_cmp-IsAntisymmetric epoch at) [
    | inl here ↦ (let old_one : get old at ≡ Some stored = ap (get old) (sym here) ∙ was epoch stored above got in
        ap (λ (m : FinMap nat_cmp V). get m epoch) is ∙ ap (get (maps.insert old at value)) here ∙ get_here nat_cmp_total nat_cmp-IsAntisymmetric old at value ∙ ap (λ (v : V). Some v) (fits stored old_one))
    | inr apart ↦ ap (λ (m : FinMap nat_cmp V). get m epoch) is ∙ get_other nat_cmp_total nat_cmp-IsAntisymmetric old at epoch value apart ∙ was epoch stored above got
  ]

  still_pruned : (min : ℕ) (old new : FinMap nat_cmp V) → min ≤ most → ((epoch : ℕ) → StaysOrGoes min epoch (get old epoch) (get new epoch)) → Still old → Still new
  still_pruned min old new low each was epoch value above got = either (each epoch)
    where
      either : StaysOrGoes min epoch (get old epoch) (get new epoch) → get new epoch ≡ Some value
      either (inl stays) = stays ∙ was epoch value above got
      either (inr goes) = absurd (let under = goes.0 in omega (arith, under, low, above))

seed_is : {Dir : Type 0} (c : Fixed Dir) (epoch : ℕ) (seed stored : List ℕ) (found : Option (List ℕ)) → seed ≡ s.seed_for c epoch found → found ≡ Some stored → seed ≡ stored
seed_is c epoch seed stored found is has = is ∙ ap (s.seed_for c epoch) has

-- ALONG A COURSE, from what a world held
module _ {Dir : Type 0} (c : Fixed Dir) (reads : ReadsSecrets c.seen) (most : ℕ) (from : World) where
  abbrev seeds : FinMap nat_cmp (List ℕ)
  seeds = from.held.secrets.seeds

  abbrev shares : FinMap nat_cmp ℕ
  shares = from.held.secrets.shares

  -- From this epoch on the seeds and the shares are held, and the lines since then offer nothing.
  pub record IsUpkept (w : World) : Type 0 where
    pub seeds_held : KeepsSeeds most from.held w
    pub shares_held : KeepsShares most from.held w
    pub lines : List Entry
    pub out : w.out ≡ from.out ++ lines
    pub unoffered : AllByRecursion IsUnoffered lines

  pub nothing_lost : IsUpkept from
  nothing_lost = record { seeds_held = λ epoch seed above got. got; shares_held = λ epoch share above got. got; lines = []; out = sym (append-nil from.out); unoffered = tt }

  says_so : (w : World) (line : Entry) → IsUnoffered line → IsUpkept w → IsUpkept (says w line)
  says_so w line none q = record {
    seeds_held = q.seeds_held;
    shares_held = q.shares_held;
    lines = q.lines ++ line ∷ [];
    out = ap (λ (xs : List Entry). xs ++ line ∷ []) q.out ∙ append_assoc from.out q.lines (line ∷ []);
    unoffered = all_joined IsUnoffered q.lines (line ∷ []) q.unoffered (none, tt);
  }

  tell : (w : World) (line : Entry) → IsAside line → IsUpkept w → IsUpkept (says w line)
  tell w line aside q = says_so w line (aside_unoffered line aside) q

  -- these are the secrets now
  now_with : (w new : World) → new.out ≡ w.out → Still most seeds new.held.secrets.seeds → Still most shares new.held.secrets.shares → IsUpkept w → IsUpkept new
  now_with w new same seeds_now shares_now q = record { seeds_held = seeds_now; shares_held = shares_now; lines = q.lines; out = same ∙ q.out; unoffered = q.unoffered }

  unchanged : (w new : World) → new.held.secrets ≡ w.held.secrets → new.out ≡ w.out → IsUpkept w → IsUpkept new
  unchanged w new is same q =
      now_with w new same (still_same most seeds w.held.secrets.seeds new.held.secrets.seeds (ap (λ (x : Secrets). x.seeds) is) q.seeds_held)
      (still_same most shares w.held.secrets.shares new.held.secrets.shares (ap (λ (x : Secrets). x.shares) is) q.shares_held) q

  -- EACH CHANGE of the secrets

  seed_tried : (epoch : ℕ) (seed : List ℕ) (w new : World) → seed ≡ s.seed_for c epoch (get w.held.secrets.seeds epoch) → new.out ≡ w.out → Tries (PutSeed epoch seed) w.held.secrets new.held.secrets → IsUpkept w → IsUpkept new
  seed_tried epoch seed w new is same tries q = elim tries.so [
    | inl stays ↦ unchanged w new stays same q
    | inr done ↦ now_with w new same
        (still_put most seeds w.held.secrets.seeds new.held.secrets.seeds epoch seed (λ stored has. seed_is c epoch seed stored (get w.held.secrets.seeds epoch) is has) (ap (λ (x : Secrets). x.seeds) done) q.seeds_held)
        (still_same most shares w.held.secrets.shares new.held.secrets.shares (ap (λ (x : Secrets). x.shares) done) q.shares_held) q
  ]

  share_tried : (epoch share : ℕ) (w new : World) → ((stored : ℕ) → get w.held.secrets.shares epoch ≡ Some stored → share ≡ stored) → new.out ≡ w.out → Tries (PutShare epoch share) w.held.secrets new.held.secrets
      → IsUpkept w → IsUpkept new
  share_tried epoch share w new fits same tries q = elim tries.so [
    | inl stays ↦ unchanged w new stays same q
    | inr done ↦ now_with w new same (still_same most seeds w.held.secrets.seeds new.held.secrets.seeds (ap (λ (x : Secrets). x.seeds) done) q.seeds_held)
        (still_put most shares w.held.secrets.shares new.held.secrets.shares epoch share fits (ap (λ (x : Secrets). x.shares) done) q.shares_held) q
  ]

  prune_tried : (min : ℕ) (w new : World) → min ≤ most → new.out ≡ w.out → Tries (Prune min) w.held.secrets new.held.secrets → IsUpkept w → IsUpkept new
  prune_tried min w new low same tries q =
      now_with w new same (still_pruned most seeds min w.held.secrets.seeds new.held.secrets.seeds low tries.so.seeds q.seeds_held)
      (still_pruned most shares min w.held.secrets.shares new.held.secrets.shares low tries.so.shares q.shares_held) q

  pub prunes : (min : ℕ) → min ≤ most → (st : Live Dir) (w : World) → IsUpkept w → Throughout IsUpkept (s.prunes min st) w
  prunes min low st w q =
      let mid : World = does w (OnDisk (of_journal.Prunes min)) in
      let there : IsUpkept mid = unchanged w mid refl refl q in (
        λ cause new tears. unchanged w new tears.torn.0 tears.same q,
        (
          λ cause new tears. prune_tried min mid new low tears.same tears.torn.1 there,
          prune_tried min mid (does mid (Changes (Prune min))) low refl (all_done (Prune min) mid.held.secrets (after (Prune min) mid.held.secrets) refl) there,
        ),
      )

  -- A COMMIT of what was read

  abbrev read_seed : World → (epoch : ℕ) → List ℕ
  read_seed w epoch = s.seed_for c epoch (lookup epoch (c.seen w.held).seeds)

  seed_is_stored : (w : World) (epoch : ℕ) → read_seed w epoch ≡ s.seed_for c epoch (get w.held.secrets.seeds epoch)
  seed_is_stored w epoch = ap (s.seed_for c epoch) (ap (lookup epoch) (reads.seeds w.held) ∙ looked_up epoch w.held.secrets.seeds)

  share_is_stored : (w : World) (info : EpochInfo Dir) (share : ℕ) → s.recovered_share c (c.seen w.held) info ≡ Some share → (stored : ℕ) → get w.held.secrets.shares info.epoch ≡ Some stored → share ≡ stored
  share_is_stored w info share is stored has =
      let found : lookup info.epoch (c.seen w.held).shares ≡ Some stored = ap (lookup info.epoch) (reads.shares w.held) ∙ looked_up info.epoch w.held.secrets.shares ∙ has in
      some_is share stored (sym is ∙ ap (λ (x : Option ℕ). option_or x (s.carried_share c (c.seen w.held) info info.outcome)) found)

  commits : (info : EpochInfo Dir) (share : Option ℕ) (st : Live Dir) (w : World) → s.recovered_share c (c.seen w.held) info ≡ share → IsUpkept w → Throughout {Dir = Dir} IsUpkept (s.commits info (read_seed w info.epoch) share st) w
  commits info None st w is q =
      let seed = read_seed w info.epoch in
      let new : World = does w (Changes (PutSeed info.epoch seed)) in
      let done : IsUpkept new = seed_tried info.epoch seed w new (seed_is_stored w info.epoch) refl (all_done (PutSeed info.epoch seed) w.held.secrets (after (PutSeed info.epoch seed) w.held.secrets) refl) q in
      (λ cause new tears. seed_tried info.epoch seed w new (seed_is_stored w info.epoch) tears.same tears.torn.1 q, (done, says_so new _ tt done))
  commits info (Some share) st w is q =
      let seed = read_seed w info.epoch in
      let mid : World = does w (Changes (PutShare info.epoch share)) in
      let new : World = does mid (Changes (PutSeed info.epoch seed)) in
      let fits : (stored : ℕ) → get w.held.secrets.shares info.epoch ≡ Some stored → share ≡ stored = share_is_stored w info share is in
      let first : IsUpkept mid = share_tried info.epoch share w mid fits refl (all_done (PutShare info.epoch share) w.held.secrets (after (PutShare info.epoch share) w.held.secrets) refl) q in
      let done : IsUpkept new = seed_tried info.epoch seed mid new (seed_is_stored w info.epoch) refl (all_done (PutSeed info.epoch seed) mid.held.secrets (after (PutSeed info.epoch seed) mid.held.secrets) refl) first in (
        λ cause new tears. share_tried info.epoch share w new fits tears.same tears.torn.1 q,
        (λ cause new tears. seed_tried info.epoch seed mid new (seed_is_stored w info.epoch) tears.same tears.torn.1 first, (done, says_so new _ tt done)),
      )

  pub commits_read : (info : EpochInfo Dir) (st : Live Dir) (w : World) → IsUpkept w → Throughout {Dir = Dir} IsUpkept (s.commits info (read_seed w info.epoch) (s.recovered_share c (c.seen w.held) info) st) w
  commits_read info st w q = commits info (s.recovered_share c (c.seen w.held) info) st w refl q

  -- AN OPENING of the form

  module _ (form : IsForm c) (low : first_epoch c - 1 ≤ most) where
    behind : (op : of_journal.JournalOperation) (course : Course Dir Fault (Live Dir)) (w : World) → IsUpkept w → (IsUpkept (does w (OnDisk op)) → Throughout IsUpkept course (does w (OnDisk op))) → Throughout IsUpkept (Do (OnDisk op) course) w
    behind op course w q next = (λ cause new tears. unchanged w new tears.torn.0 tears.same q, next (unchanged w (does w (OnDisk op)) refl refl q))

    abbrev next : Live Dir → Option (Material Dir) → Course Dir Fault (Live Dir)
    next st found = p.stays_in_range c (p.resolves_plan c (p.starts_from c st) found)

    goes : (st : Live Dir) (w : World) → IsUpkept w → Throughout IsUpkept (next st None) w
    goes st w q = along_if IsUpkept w (option_map_or (λ t. s.is_past_range c (t.height + 1)) (start c) false) (Stops HeightRange) (p.starts_from c st None) (λ e. q)
        (λ e. walk.setup c IsUpkept tell most commits_read prunes None (record st { tip = startup c.source.anchor None }) w low q)

    opens : (st : Live Dir) (w : World) → IsUpkept w → Throughout IsUpkept (opens_in c c.oneshot st) w
    opens st w q = subst (λ (o : Option (OneShot Dir)). Throughout IsUpkept (opens_in c o st) w) (sym form.reshare)
        (subst (λ (m : Option (Material Dir)). Throughout IsUpkept (p.finds_material c m (next st)) w) (sym form.bare)
        (subst (λ (found : Option (List ℕ)). Throughout IsUpkept (p.reads_plan c found (next st)) w) (sym (form.unplanned w.held)) (goes st w q)))

    abbrev restores : Course Dir Fault (Live Dir)
    restores = s.looks c (λ seen. Say (Opened c.life (map restored_of seen.dealings)) (opens_in c c.oneshot (begun_life seen)))

    opening_walks : Throughout IsUpkept (opening c) from
    opening_walks =
        behind Bars (Do (OnDisk (Opens c.opening_calls)) restores) from nothing_lost (λ q.
        behind (Opens c.opening_calls) restores (does from (OnDisk Bars)) q (λ q.
        let at : World = does (does from (OnDisk Bars)) (OnDisk (Opens c.opening_calls)) in
        let line : Entry = Opened c.life (map restored_of (c.seen at.held).dealings) in
        (q, opens (begun_life (c.seen at.held)) (says at line) (says_so at line tt q))))

    -- A NODE'S OPENING, wherever it ends
    pub openings_upkeep : (ended : Ended NodeStop (Live Dir)) (new : World) → EndsSo (node_opening c) ended from new → IsUpkept new
    openings_upkeep ended new run =
        let its : RunsBehind (opening c) ended from new = openings_run_behind c ended from new run in
        let mid : IsUpkept its.mid = along_runs IsUpkept (on_devices (opening c)) its.half from its.mid opening_walks its.run in
        record {
          seeds_held = λ epoch seed above got. ap (λ (h : Held). get h.secrets.seeds epoch) its.held ∙ mid.seeds_held epoch seed above got;
          shares_held = λ epoch share above got. ap (λ (h : Held). get h.secrets.shares epoch) its.held ∙ mid.shares_held epoch share above got;
          lines = mid.lines ++ its.lines;
          out = its.out ∙ ap (λ (xs : List Entry). xs ++ its.lines) mid.out ∙ append_assoc from.out mid.lines its.lines;
          unoffered = all_joined IsUnoffered mid.lines its.lines mid.unoffered (all_aside its.lines its.aside);
        }
