-- What a life's end leaves, and what the fault that ended it blames.
use Rattle.std.proofs.Common.{◌≡◌, ◌⊎◌, inl, inr, ℕ, ◌+◌, ◌<◌, ◌++◌, Bool, ◌∷◌, [], List, Option, Some, None, Result, Ok, Err, refl, sym, ◌∙◌, ap, subst, arith}
use Rattle.std.specs.Prelude.{IfErr, IsSome}
use Rattle.dkg_journal.specs.Burn.{Burn}
use Rattle.dkg_journal.specs.DeviceCall.{DeviceCall}
use Rattle.dkg_journal.specs.Disk.{Rose}
use Rattle.dkg_journal.specs.Names.{Files}
use Rattle.dkg_journal.specs.declared.disk.Op.{Op}
use Rattle.dkg_infos.specs.declared.directory.Unit as directory
use Rattle.dkg_infos.specs.declared.entry.Entry.{Entry}
use Rattle.dkg_infos.specs.declared.entry.Entry.TheVariants as entry
use Rattle.dkg_infos.specs.declared.fault.Fault.{Fault}
use Rattle.dkg_infos.specs.declared.fault.Fault.TheVariants as fault
use Rattle.dkg_infos.specs.declared.fault.Fault.TheVariants.{NoMemory}
use Rattle.dkg_text.specs.declared.script.Cut as cut
use Rattle.dkg_text.specs.declared.script.Event.{Event}
use Rattle.dkg_text.specs.declared.script.Life.{Life}
use Rattle.dkg_text.specs.declared.script.Script.{Script}
use Rattle.dkg_store.specs.Acts.{Held, at, moment}
use Rattle.dkg_store.specs.Corrupt.{AreFit}
use Rattle.dkg_secrets.specs.Secrets.{Secrets}
use Rattle.dkg_secrets.specs.declared.secrets.SecretOp.{SecretOp}
use Rattle.dkg_store.specs.declared.devices.Devices.{Devices}
use Rattle.dkg_core.specs.Courses.{Course}
use Rattle.dkg_core.specs.Live.{Live, NodeStop}
use Rattle.dkg_core.specs.Node.{node_opening}
use Rattle.dkg_core.specs.Seen.{Seen}
use Rattle.dkg_life.specs.Planless.{seen_planless}
use Rattle.dkg_life.specs.declared.stop.Stop.{Stop}
use Rattle.dkg_life.specs.declared.stop.Stop.TheVariants.{Cut, Fault as FaultOf}
use Rattle.dkg_lives.specs.Causes.{HasDeviceCause}
use Rattle.dkg_lives.specs.Ended.{by_node_stop}
use Rattle.dkg_lives.specs.Given.{Lived, at_step, lived, step_of}
use Rattle.dkg_lives.specs.Moving.{Blames, StopBlames, Went}
use Rattle.dkg_lives.specs.Lives.{AnyFiles, EndsLife, LivesHere, LivesSo, Steps, TakesAll, fuse_for, never}
use Rattle.dkg_lives.specs.Stopped.{picks_at_end}
use Rattle.dkg_lives.specs.Ways.{Trace, by_entries, by_worlds, trace}
use Rattle.dkg_lives.proofs.Living.{rose_around}
use Rattle.dkg_run.proofs.Running.{ends_over}

-- OF FEWER IMAGES

pub narrowed_fit : (most : ℕ) (image next : Files → Type 0) → ((c : Files) → next c → image c) → AreFit most image → AreFit most next
narrowed_fit most image next narrows fit = record {
  whole = record { each = λ c here. fit.whole.each c (narrows c here) };
  events = λ c here. fit.events c (narrows c here);
}

-- WHAT A FAULT BLAMES: one that ended a life leaves the devices as they were

module _ {D X : Type 0} (disk_faults : D → ℕ) (secret_faults : X → ℕ) where
  pub life_blames : (old mid new : Devices D X) (how : Result (Unit {0}) Stop) (result : Result (Unit {0}) Fault) → IfErr how (StopBlames disk_faults secret_faults old mid)
      → IfErr result (λ fault. (how ≡ Err (FaultOf fault)) ⊎ (fault ≡ NoMemory)) → ((fault : Fault) → how ≡ Err (FaultOf fault) → new ≡ mid)
      → IfErr result (Blames disk_faults secret_faults old new)
  life_blames old mid new how (Ok done) caused faulted same = tt
  life_blames old mid new how (Err its) caused (inl is) same = subst (λ (d : Devices D X). Blames disk_faults secret_faults old d its) (sym (same its is))
      (subst (λ (r : Result (Unit {0}) Stop). IfErr r (StopBlames disk_faults secret_faults old mid)) is caused)
  life_blames old mid new how (Err its) caused (inr is) same = subst (Blames disk_faults secret_faults old new) (sym is) tt

-- .. and what it blames in a part of a run, it blames in all of it
faults_around : (its : Fault) (P Q R S : Type 0) → (P → R) → (Q → S) → HasDeviceCause its P Q → HasDeviceCause its R S
faults_around fault.Disk P Q R S disk secrets is = disk is
faults_around fault.Secrets P Q R S disk secrets is = secrets is
faults_around its P Q R S disk secrets is = tt

module _ {D X : Type 0} (tells : Bool) (disk : D → D → List (DeviceCall Op) → Type 0) (secrets : X → X → List (DeviceCall SecretOp) → Type 0) (disk_faults : D → ℕ) (secret_faults : X → ℕ) where
  pub blames_behind : (old mid new : Devices D X) (picks more : List ℕ) → Went tells disk secrets disk_faults secret_faults old mid picks → Went tells disk secrets disk_faults secret_faults mid new more → (its : Fault)
      → Blames disk_faults secret_faults mid new its → Blames disk_faults secret_faults old new its
  blames_behind old mid new picks more first behind its = faults_around its
      (Rose (disk_faults mid.disk.now) (disk_faults new.disk.now)) (Rose (secret_faults mid.secrets.now) (secret_faults new.secrets.now))
      (Rose (disk_faults old.disk.now) (disk_faults new.disk.now)) (Rose (secret_faults old.secrets.now) (secret_faults new.secrets.now))
      (rose_around (disk_faults old.disk.now) (disk_faults mid.disk.now) (disk_faults new.disk.now) (disk_faults new.disk.now) first.later_disk behind.later_disk (omega arith))
      (rose_around (secret_faults old.secrets.now) (secret_faults mid.secrets.now) (secret_faults new.secrets.now) (secret_faults new.secrets.now) first.later_secrets behind.later_secrets (omega arith))

-- ONLY A LIFE THAT THE SCRIPT CUTS ends by a cut

module _ (its : Option cut.Cut) (step : ℕ) (line : Entry) (course : Course directory.Unit NodeStop (Live directory.Unit)) (t new : Trace) (next : Live directory.Unit → Trace → Type 0) where
  step_scripted : (fuse : Option Burn) → fuse_for its step ≡ fuse → Steps by_entries line fuse course t (Err Cut) new next → ((end : Live directory.Unit) (mid : Trace) → next end mid → IsSome its) → IsSome its
  step_scripted None is stops more = by_cut its is
    where
      by_cut : (o : Option cut.Cut) → fuse_for o step ≡ None → IsSome o
      by_cut None wrong = absurd (let no : ◌≡◌ {A = Option Burn} (Some never) None = wrong in cc)
      by_cut (Some c) wrong = refl
  step_scripted (Some f) is (inl wants) more = absurd (let wrong : ◌≡◌ {A = Result (Unit {0}) Stop} (Err Cut) (Err (FaultOf NoMemory)) = wants.0 in cc)
  step_scripted (Some f) is (inr (inl (stop, how, goes))) more = by_cut its is
    where
      the_stop : {x y : Stop} → ◌≡◌ {A = Result (Unit {0}) Stop} (Err x) (Err y) → x ≡ y
      the_stop e = cc

      burns : 0 < f.call
      burns = (subst (λ (s : Stop). by_entries.goes course (by_node_stop s) f t new) (sym (the_stop how)) goes).2 refl

      by_cut : (o : Option cut.Cut) → fuse_for o step ≡ Some f → IsSome o
      by_cut None same = absurd (none_burns f (the_fuse same) burns)
        where
          the_fuse : {x y : Burn} → Some x ≡ Some y → x ≡ y
          the_fuse e = cc

          none_burns : (f : Burn) → never ≡ f → 0 < f.call → ⊥
          none_burns f e less = omega (arith, subst (λ (b : Burn). 0 < b.call) (sym e) less)
      by_cut (Some c) same = refl
  step_scripted (Some f) is (inr (inr (end, mid, goes, inl wants))) more = absurd (let wrong : ◌≡◌ {A = Result (Unit {0}) Stop} (Err Cut) (Err (FaultOf NoMemory)) = wants.0 in cc)
  step_scripted (Some f) is (inr (inr (end, mid, goes, inr then))) more = more end (by_entries.says mid line) then

takes_scripted : (g : Lived) (j : ℕ) (events : List Event) (st : Live directory.Unit) (t new : Trace) → TakesAll by_entries g j events st t (Err Cut) new → IsSome g.life.cut
takes_scripted g j [] st t new takes = absurd (let wrong : ◌≡◌ {A = Result (Unit {0}) Stop} (Err Cut) (Ok tt) = takes.0 in cc)
takes_scripted g j (event ∷ events) st t new takes =
    step_scripted g.life.cut j (entry.Step j) (step_of g j event st) t new (λ end mid. TakesAll by_entries g (j + 1) events end mid (Err Cut) new) (fuse_for g.life.cut j) refl takes
    (λ end mid more. takes_scripted g (j + 1) events end mid new more)

pub life_scripted : (g : Lived) (files : Files) (t new : Trace) (how : Result (Unit {0}) Stop) → LivesSo by_entries g files t how new → how ≡ Err Cut → IsSome g.life.cut
life_scripted g files t new how lives cuts = by_cases (subst (λ (h : Result (Unit {0}) Stop). LivesSo by_entries g files t h new) cuts lives)
  where
    by_cases : LivesSo by_entries g files t (Err Cut) new → IsSome g.life.cut
    by_cases (inl steps) = step_scripted g.life.cut 0 (entry.Step 0) (node_opening (at_step g 0)) t new (λ end mid. TakesAll by_entries g 1 g.life.events end mid (Err Cut) new) (fuse_for g.life.cut 0) refl steps
        (λ end mid more. takes_scripted g 1 g.life.events end mid new more)
    by_cases (inr refused) = absurd (refused.1.2)

-- A LIFE WITH ITS END, over the lines, and over worlds

module _ (script : Script) (number : ℕ) (life : Life) (files : Files) (how : Result (Unit {0}) Stop) (result : Result (Unit {0}) Fault) (out mid new : List Entry) where
  pub life_lines : (seen : Held → Seen) → by_entries.reads seen → ((picks : List ℕ) → LivesSo by_entries (lived script number life seen files) files (trace out picks) how (trace mid picks))
      → ((picks : List ℕ) → EndsLife by_entries life how (trace mid picks) result (trace new (picks ++ picks_at_end life how)) (λ now. (result ≡ Ok tt) × (now ≡ trace new (picks ++ picks_at_end life how))))
      → (picks : List ℕ) → LivesHere by_entries script AnyFiles number life (trace out picks) result (trace new (picks ++ picks_at_end life how)) (λ now. (result ≡ Ok tt) × (now ≡ trace new (picks ++ picks_at_end life how)))
  life_lines seen reads so ends picks = (seen, files, how, trace mid picks, reads, tt, tt, so picks, ends picks)

  pub life_closes : (c : Files) (held held_mid held_new : Secrets) (f f_mid f_new : Burn) → held_new ≡ held_mid → f_new ≡ f_mid
      → LivesSo by_worlds (lived script number life seen_planless files) files (at (moment out held f) files) how (at (moment mid held_mid f_mid) c)
      → EndsLife by_entries life how (trace mid []) result (trace new (picks_at_end life how)) (λ now. (result ≡ Ok tt) × (now ≡ trace new (picks_at_end life how)))
      → LivesHere by_worlds script (λ its. its ≡ files) number life (at (moment out held f) files) result (at (moment new held_new f_new) c) (λ w. (result ≡ Ok tt) × (w ≡ at (moment new held_new f_new) c))
  life_closes c held held_mid held_new f f_mid f_new same_held same_fuse so ends = (
    seen_planless,
    files,
    how,
    at (moment mid held_mid f_mid) c,
    refl,
    refl,
    refl,
    so,
    ends_over life mid new [] (picks_at_end life how) (at (moment mid held_mid f_mid) c) (at (moment new held_new f_new) c) result same refl how ends,
  )
    where
      same : at (moment new held_new f_new) c ≡ record (at (moment mid held_mid f_mid) c) { out = new }
      same = ap (λ (s : Secrets). at (moment new s f_new) c) same_held ∙ ap (λ (f : Burn). at (moment new held_mid f) c) same_fuse
