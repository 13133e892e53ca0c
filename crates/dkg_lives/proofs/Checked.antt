-- A life of a script whose configuration was checked.
use Rattle.std.proofs.Common.{◌≡◌, ◌≤◌, ◌<◌, ℕ, Bool, true, false, List, Option, Some, None, refl, sym, ◌∙◌, subst, arith}
use Rattle.std.specs.Prelude.{◌==◌, not, IfSome, IsSomeAnd, slice_get, if◌then◌else◌}
use Rattle.std.specs.Int.NonZero.{non_zero_u64_get}
use Rattle.std.specs.declared.num.NonZeroU64.{NonZeroU64}
use Rattle.std.proofs.lemmas.Bool.Decides.{nat_tests}
use Rattle.dkg_ceremony.specs.Modes.{supports_of}
use Rattle.dkg_ceremony.specs.declared.mode.Mode.{Mode}
use Rattle.dkg_journal.specs.Names.{Files}
use Rattle.dkg_infos.specs.declared.fault.Fault.{Fault}
use Rattle.dkg_infos.specs.declared.fault.Fault.TheVariants.{InvalidConfig}
use Rattle.dkg_infos.specs.declared.fault.ConfigCause.{ConfigCause}
use Rattle.dkg_infos.specs.declared.fault.ConfigCause.TheVariants.{Mode as ModeCause, OneBlock}
use Rattle.dkg_text.specs.declared.script.Anchor.{Anchor}
use Rattle.dkg_text.specs.declared.script.Anchor.TheVariants.{Absent, Processed}
use Rattle.dkg_text.specs.declared.script.BlockLine.{BlockLine}
use Rattle.dkg_text.specs.declared.script.Life.{Life}
use Rattle.dkg_text.specs.declared.script.Script.{Script}
use Rattle.dkg_script.specs.Epochs.{IsAnchorIn}
use Rattle.dkg_script.specs.Inclusion.{IsFormOfInclusion}
use Rattle.dkg_store.specs.Acts.{Held}
use Rattle.dkg_core.specs.Seen.{Seen}
use Rattle.dkg_life.specs.Configured.{config_fault}
use Rattle.dkg_lives.specs.Causes.{HasDeviceCause}
use Rattle.dkg_lives.specs.Epochs.{IsAnchorAbove, IsChecked, IsLifeInForm, refused_config}
use Rattle.dkg_lives.specs.Given.{IsUnplanned, lived}

passes : (t u : Bool) (a b : Fault) → (if not t then Some a else if u then Some b else None) ≡ None → (t ≡ true) × (u ≡ false)
passes false u a b is = absurd (let wrong : ◌≡◌ {A = Option Fault} (Some a) None = is in cc)
passes true true a b is = absurd (let wrong : ◌≡◌ {A = Option Fault} (Some b) None = is in cc)
passes true false a b is = (refl, refl)

two_at_least : (n : ℕ) → 0 < n → (n == 1) ≡ false → 2 ≤ n
two_at_least n some e = grind (arith, nat_tests)

-- a NonZero is not zero
some_blocks : (n : NonZeroU64) → 0 < non_zero_u64_get n
some_blocks n = n.ok

pub supported_mode : (script : Script) → IsChecked script → supports_of script.config.max_mode.0 script.config.mode ≡ true
supported_mode script checked =
    (passes (supports_of script.config.max_mode.0 script.config.mode) (non_zero_u64_get script.config.blocks_per_epoch == 1) (InvalidConfig ModeCause) (InvalidConfig OneBlock) checked).0

pub long_epochs : (script : Script) → IsChecked script → 2 ≤ non_zero_u64_get script.config.blocks_per_epoch
long_epochs script checked = two_at_least (non_zero_u64_get script.config.blocks_per_epoch) (some_blocks script.config.blocks_per_epoch)
    (passes (supports_of script.config.max_mode.0 script.config.mode) (non_zero_u64_get script.config.blocks_per_epoch == 1) (InvalidConfig ModeCause) (InvalidConfig OneBlock) checked).1

pub anchor_above : (blocks : List BlockLine) (at : Option Anchor) → IfSome at (IsAnchorIn blocks) → IfSome at (IsAnchorAbove blocks)
anchor_above blocks None is = tt
anchor_above blocks (Some (Processed number)) is = tt
anchor_above blocks (Some (Absent number)) is = by_line (slice_get blocks number) is
  where
    by_line : (o : Option BlockLine) → IsSomeAnd o (λ line. 0 < line.height) → IfSome o (λ line. 0 < line.height)
    by_line None is = absurd is
    by_line (Some line) is = is

pub life_in_form : (script : Script) (number : ℕ) (life : Life) (seen : Held → Seen) (files : Files) → IsFormOfInclusion script → IsChecked script → slice_get script.lives number ≡ Some life → IsUnplanned seen
    → IsLifeInForm (lived script number life seen files)
life_in_form script number life seen files form checked life_is none = record {
  form = form;
  life_is = life_is;
  anchor = anchor_above script.blocks life.anchor (form.lives number life life_is).anchor;
  unplanned = none;
  supported = supported_mode script checked;
  long = long_epochs script checked;
}

-- no configuration with the same parts is refused
pub not_refused : (script : Script) → IsChecked script → (mode : Mode) (version blocks : ℕ) → mode ≡ script.config.mode → version ≡ script.config.max_mode.0 → blocks ≡ non_zero_u64_get script.config.blocks_per_epoch
    → (its : Fault) → config_fault mode version blocks ≡ Some its → ⊥
not_refused script checked mode version blocks same_mode same_version same_blocks its is = none_some (sym checked ∙ sym (λ i. config_fault (same_mode i) (same_version i) (same_blocks i)) ∙ is)
  where
    none_some : {x : Fault} → ◌≡◌ {A = Option Fault} None (Some x) → ⊥
    none_some e = cc

-- A refused configuration blames no device.
pub config_caused : (mode : Mode) (version blocks : ℕ) (its : Fault) → config_fault mode version blocks ≡ Some its → (P Q : Type 0) → HasDeviceCause its P Q
config_caused mode version blocks its is P Q = by_test (supports_of version mode) (blocks == 1) is
  where
    the_fault : {x y : Fault} → Some x ≡ Some y → x ≡ y
    the_fault e = cc

    by_test : (t u : Bool) → (if not t then Some (InvalidConfig ModeCause) else if u then Some (InvalidConfig OneBlock) else None) ≡ Some its → HasDeviceCause its P Q
    by_test false u is = subst (λ (x : Fault). HasDeviceCause x P Q) (the_fault is) tt
    by_test true true is = subst (λ (x : Fault). HasDeviceCause x P Q) (the_fault is) tt
    by_test true false is = absurd (let wrong : ◌≡◌ {A = Option Fault} None (Some its) = is in cc)

-- .. and is a cause of its own.
pub refused_so : (script : Script) (its : Fault) → refused_config script ≡ Some its → (P : Fault → Type 0) → ((cause : ConfigCause) → P (InvalidConfig cause)) → P its
refused_so script its is P so = by_test (supports_of script.config.max_mode.0 script.config.mode) (non_zero_u64_get script.config.blocks_per_epoch == 1) is
  where
    the_fault : {x y : Fault} → Some x ≡ Some y → x ≡ y
    the_fault e = cc

    by_test : (t u : Bool) → (if not t then Some (InvalidConfig ModeCause) else if u then Some (InvalidConfig OneBlock) else None) ≡ Some its → P its
    by_test false u is = subst P (the_fault is) (so ModeCause)
    by_test true true is = subst P (the_fault is) (so OneBlock)
    by_test true false is = absurd (let wrong : ◌≡◌ {A = Option Fault} None (Some its) = is in cc)
