-- The fence is ready where a life's half enters its epoch.
use Rattle.std.proofs.Common.{◌≡◌, ℕ, arith, Bool, true, false, Option, Some, None, Result, Ok, Err, refl, sym, ◌∙◌, ap, subst}
use Rattle.std.specs.Prelude.{◌==◌, IsSomeAnd, if◌then◌else◌}
use Rattle.std.specs.Option.{option_map_or}
use Rattle.std.proofs.lemmas.Bool.Decides.{nat_tests}
use Rattle.dkg_ceremony.specs.Schedule.{boundary, first}
use Rattle.dkg_ceremony.specs.declared.epocher.Bounds.{Bounds}
use Rattle.dkg_fence.specs.Readiness.{Readiness}
use Rattle.dkg_types.specs.Blocks.{Block}
use Rattle.dkg_types.specs.BlockCodes.{info_of}
use Rattle.dkg_infos.specs.declared.directory.Unit as directory
use Rattle.dkg_infos.specs.declared.fault.Fault.{Fault}
use Rattle.dkg_infos.specs.declared.fault.Fault.TheVariants.{MissingEpochInfo, WrongEpoch}
use Rattle.dkg_infos.specs.declared.info.EpochInfo.{EpochInfo}
use Rattle.dkg_core.specs.Entering.{is_ready}
use Rattle.dkg_core.specs.Fixed.{Fixed}
use Rattle.dkg_core.specs.Sources.{SourceAnswers}
use Rattle.dkg_core.specs.Endings.{first_block, first_epoch}
use Rattle.dkg_around.specs.Halves.{AreStart, beginning_of}
use Rattle.dkg_around.specs.Orchestrator.{IsFenceReady, IsHalfGiven}

-- what an info is judged as, for an epoch
abbrev judged : (epoch : ℕ) → (height : ℕ) → Option (EpochInfo directory.Unit) → Result (Unit {0}) Fault
judged epoch height found = option_map_or (λ info. if info.epoch == epoch then Ok tt else Err (WrongEpoch epoch info.epoch)) found (Err (MissingEpochInfo height))

abbrev by_epoch : Bool → (epoch got : ℕ) → Result (Unit {0}) Fault
by_epoch t epoch got = if t then Ok tt else Err (WrongEpoch epoch got)

-- the fence is ready for the epoch whose info the boundary block carries
pub ready_where_carried : (c : Fixed directory.Unit) (fence : Readiness) (b : Block directory.Unit) (epoch : ℕ) → epoch ≡ first_epoch c → first_block c ≡ Some b → beginning_of b epoch ≡ Ok tt → IsFenceReady c fence
    → is_ready fence.ready epoch ≡ true
ready_where_carried c fence b epoch of at begins ready = subst (λ (n : ℕ). is_ready fence.ready n ≡ true) (sym of) (ready (on_first (first_block c) at))
  where
    by_test : (info : EpochInfo directory.Unit) (t : Bool) → (info.epoch == epoch) ≡ t → by_epoch t epoch info.epoch ≡ Ok tt → info.epoch ≡ first_epoch c
    by_test info true e is = same info.epoch epoch e ∙ of
      where
        same : (n m : ℕ) → (n == m) ≡ true → n ≡ m
        same n m e = grind (arith, nat_tests)
    by_test info false e is = absurd (let wrong : ◌≡◌ {A = Result (Unit {0}) Fault} (Err (WrongEpoch epoch info.epoch)) (Ok tt) = is in cc)

    on_info : (found : Option (EpochInfo directory.Unit))
        → judged epoch b.height found ≡ Ok tt → IsSomeAnd found (λ (info : EpochInfo directory.Unit). info.epoch ≡ first_epoch c)
    on_info None is = absurd (let wrong : ◌≡◌ {A = Result (Unit {0}) Fault} (Err (MissingEpochInfo b.height)) (Ok tt) = is in cc)
    on_info (Some info) is = by_test info (info.epoch == epoch) refl is

    on_first : (found : Option (Block directory.Unit)) → found ≡ Some b → IsSomeAnd found (λ b. IsSomeAnd (info_of b.payload) (λ info. info.epoch ≡ first_epoch c))
    on_first None is = absurd (let wrong : ◌≡◌ {A = Option (Block directory.Unit)} None (Some b) = is in cc)
    on_first (Some own) is = subst (λ (k : Block directory.Unit). IsSomeAnd (info_of k.payload) (λ info. info.epoch ≡ first_epoch c)) (sym (the_block is)) (on_info (info_of b.payload) begins)
      where
        the_block : {x y : Block directory.Unit} → Some x ≡ Some y → x ≡ y
        the_block e = cc

-- .. where the bounds, the boundary block and its info were found so
pub ready_at : (c : Fixed directory.Unit) (fence : Readiness) (b : Block directory.Unit) (blocks : ℕ) (source : SourceAnswers directory.Unit) (bounds : Bounds) (height : ℕ) → IsHalfGiven blocks source c → AreStart c bounds
    → ((n : ℕ) → bounds.first ≡ first n bounds.epoch → height ≡ boundary n bounds.epoch) → Some b ≡ source.block height → beginning_of b bounds.epoch ≡ Ok tt → IsFenceReady c fence → is_ready fence.ready bounds.epoch ≡ true
ready_at c fence b blocks source bounds height given start boundary_is there begins ready = ready_where_carried c fence b bounds.epoch start.epoch_is here begins ready
  where
    here : first_block c ≡ Some b
    here = ap (λ (s : SourceAnswers directory.Unit). s.block (boundary c.blocks_per_epoch (first_epoch c))) given.lent
        ∙ ap source.block (sym (boundary_is c.blocks_per_epoch start.first_is ∙ ap (boundary c.blocks_per_epoch) start.epoch_is)) ∙ sym there
