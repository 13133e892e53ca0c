-- The log that a block of a script brings fits a record: its payload was read, and a block stands at a height of 64 bits.
use Rattle.std.proofs.Common.{◌≡◌, ℕ, ◌^◌, ◌<◌, ◌≤◌, true, false, List, [], ◌∷◌, Option, Some, None, Ok, Err, refl, sym, ap, subst, ◌∙◌, length, arith}
use Rattle.std.specs.Prelude.{⊤, IfSome, Result, option_and_then}
use Rattle.std.specs.Int.NonZero.{non_zero_u32_get}
use Rattle.std.specs.List.{AllByRecursion}
use Rattle.std.specs.Result.{result_ok}
use Rattle.dkg_values.specs.Codec.{IsBytes, Reading, whole}
use Rattle.dkg_ceremony.specs.Logs.{LogFits, SignedFits}
use Rattle.dkg_ceremony.specs.declared.dealer_log.DealerLog.{DealerLog}
use Rattle.dkg_ceremony.specs.declared.signed_log.SignedDealerLog.{SignedDealerLog}
use Rattle.dkg_types.specs.PayloadCodes.{its_log, payload_at, payload_grammar}
use Rattle.dkg_infos.specs.Units.{unit_at, unit_grammar, unit_spelling}
use Rattle.dkg_infos.specs.declared.directory.Unit as directory
use Rattle.dkg_types.specs.declared.payload.Payload.{Payload}
use Rattle.dkg_types.specs.declared.payload.Payload.TheVariants as payload
use Rattle.dkg_text.specs.declared.script.BlockLine.{BlockLine}
use Rattle.dkg_text.specs.declared.script.ScriptConfig.{ScriptConfig}
use Rattle.dkg_script.specs.Readings.{Limits, unit_payload}
use Rattle.dkg_store.specs.Events.{no_limit}
use Rattle.dkg_core.specs.Agreeing.{BringsRecords}
use Rattle.dkg_core.specs.Live.{Finalized}
use Rattle.dkg_lives.specs.Given.{AreBytes, Lived, at_step, payload_in}
use Rattle.dkg_lives.proofs.Former.{IsMadeOf}
use Rattle.dkg_lives.proofs.Living.{holds_at}

some_is : {A : Type 0} {x y : A} → ◌≡◌ {A = Option A} (Some x) (Some y) → x ≡ y
some_is e = cc

none_some : {A : Type 0} (x : A) → ◌≡◌ {A = Option A} None (Some x) → ⊥
none_some x e = cc

-- a log within a limit is within none
no_more : (most : ℕ) (log : DealerLog) → most ≤ 2 ^ 30 → LogFits most log → LogFits no_limit log
no_more most log low fits = record {
  one = record { some = fits.one.some; in_bound = public (length log.public) fits.one.in_bound; small = fits.one.small; elements = fits.one.elements };
  other = record { in_bound = public (length log.entries) fits.other.in_bound; small = fits.other.small; each = fits.other.each };
}
  where
    public : (n : ℕ) → n ≤ most → n ≤ no_limit
    public n few = omega (arith, low, few)

-- what was read whole
whole_is : {A : Type 0} (reading : Reading A) (v : A) → whole reading ≡ Ok v → reading ≡ Ok (v, [])
whole_is {A} (Ok (w, [])) v e = let same : w ≡ v = cc in ap (λ (x : A). Ok (x, [])) same
whole_is (Ok (w, b ∷ bs)) v e = absurd cc
whole_is (Err f) v e = absurd cc

ok_of : {A E : Type 0} (r : Result A E) (v : A) → result_ok r ≡ Some v → r ≡ Ok v
ok_of {A} {E} (Ok w) v e = ap (λ (x : A). Ok x) (some_is e)
ok_of (Err f) v e = absurd (none_some v e)

read_fits : (limits : Limits) (bytes : List ℕ) (log : SignedDealerLog) → IsBytes bytes → unit_payload limits bytes ≡ Some (payload.DealerLog log) → SignedFits limits.limit log
read_fits limits bytes log are is =
    ((payload_grammar (λ peers u. ⊤) unit_spelling (λ _. unit_at) (λ _ _. true) (λ peers. unit_grammar) limits.limit limits.version).found bytes (payload.DealerLog log) [] are
    (whole_is (payload_at (λ _. unit_at) (λ _ _. true) limits.limit limits.version bytes) (payload.DealerLog log) (ok_of (whole (payload_at (λ _. unit_at) (λ _ _. true) limits.limit limits.version bytes)) (payload.DealerLog log) is))).0

-- the log that a line's payload is
pub log_read : (config : ScriptConfig) (o : Option (List ℕ)) → IfSome o IsBytes → (log : SignedDealerLog) → option_and_then its_log (payload_in config o) ≡ Some log → SignedFits (non_zero_u32_get config.limit) log
log_read config None are log is = absurd (none_some log is)
log_read config (Some its) are log is = by_payload (unit_payload limits its) refl is
  where
    limits : Limits
    limits = record { limit = non_zero_u32_get config.limit; version = config.max_mode.0; addressed = false }

    by_payload : (o : Option (Payload directory.Unit)) → unit_payload limits its ≡ o → option_and_then its_log o ≡ Some log → SignedFits (non_zero_u32_get config.limit) log
    by_payload None read is = absurd (none_some log is)
    by_payload (Some (payload.EpochInfo info)) read is = absurd (none_some log is)
    by_payload (Some (payload.DealerLog x)) read is = subst (λ (y : SignedDealerLog). SignedFits (non_zero_u32_get config.limit) y) (some_is is) (read_fits limits its x are read)

-- WHAT A BLOCK BRINGS
module _ (g : Lived) (bytes : AreBytes g.script.blocks) (heights : AllByRecursion (λ (line : BlockLine). line.height < 2 ^ 64) g.script.blocks) (few : non_zero_u32_get g.script.config.limit ≤ 2 ^ 30) (i number : ℕ) (made_it : IsMadeOf g.script number) where
  pub block_fits : BringsRecords (at_step g i) (Finalized made_it.block)
  block_fits = λ log is.
      let fits = log_read g.script.config (made_it.line).payload (holds_at (λ (line : BlockLine). IfSome line.payload IsBytes) g.script.blocks number made_it.line bytes made_it.line_is) log (ap (option_and_then its_log) (sym made_it.payload) ∙ is) in
      record {
        one = fits.one;
        other = record {
          one = subst (λ (h : ℕ). h < 2 ^ 64) (sym made_it.height) (holds_at (λ (line : BlockLine). line.height < 2 ^ 64) g.script.blocks number made_it.line heights made_it.line_is);
          other = no_more (non_zero_u32_get g.script.config.limit) log.log few fits.other.one;
        };
      }

  abbrev Within : SignedDealerLog → Type 0
  Within log = LogFits (non_zero_u32_get g.script.config.limit) log.log

  -- .. within the script's limit
  pub block_within : IfSome (option_and_then its_log (made_it.block).payload) Within
  block_within = by_log (option_and_then its_log (payload_in g.script.config (made_it.line).payload)) refl
    where
      by_log : (o : Option SignedDealerLog) → option_and_then its_log (payload_in g.script.config (made_it.line).payload) ≡ o → IfSome (option_and_then its_log (made_it.block).payload) Within
      by_log o is = subst (λ (x : Option SignedDealerLog). IfSome x Within) (sym (ap (option_and_then its_log) made_it.payload ∙ is)) (each o is)
        where
          each : (o : Option SignedDealerLog) → option_and_then its_log (payload_in g.script.config (made_it.line).payload) ≡ o → IfSome o Within
          each None is = tt
          each (Some log) is =
              (log_read g.script.config (made_it.line).payload (holds_at (λ (line : BlockLine). IfSome line.payload IsBytes) g.script.blocks number made_it.line bytes made_it.line_is) log is).other.one
