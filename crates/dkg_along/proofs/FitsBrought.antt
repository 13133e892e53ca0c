-- What a life over many epochs records fits a record: its own acknowledgements, and what its events bring.
use Rattle.std.proofs.Common.{◌≡◌, ◌-◌, ◌^◌, ◌<◌, ◌≤◌, ◌++◌, ◌∷◌, [], ℕ, List, length, Option, Some, None, Result, Ok, Err, true, false, suc, refl, sym, ◌∙◌, ap, subst, arith, ◌⊎◌, inl, inr}
use Rattle.std.specs.Prelude.{⊤, IfSome, option_and_then, slice_get}
use Rattle.std.specs.Int.{to_be_bytes, w32}
use Rattle.std.specs.Int.NonZero.{non_zero_u32_get}
use Rattle.std.specs.List.{AllByRecursion}
use Rattle.std.specs.Result.{result_ok}
use Rattle.std.proofs.lemmas.List.{length-take}
use Rattle.sha2.specs.Sha256.{sha256}
use Rattle.sha2.proofs.Facts256.{length-sha256}
use Rattle.dkg_values.specs.Codec.{IsBytes, whole}
use Rattle.dkg_values.specs.Grammar.{decoded_found}
use Rattle.dkg_values.specs.Lists.{PublicFits}
use Rattle.dkg_values.specs.declared.codec.CodecError.{CodecError}
use Rattle.dkg_ceremony.specs.Acks.{ack_content}
use Rattle.dkg_ceremony.specs.LogEntries.{EntriesFit}
use Rattle.dkg_ceremony.specs.Logs.{LogFits, SignedFits}
use Rattle.dkg_ceremony.specs.Marks.{domain_byte, mark_of}
use Rattle.dkg_ceremony.specs.declared.dealer_log.DealerLog.{DealerLog}
use Rattle.dkg_ceremony.specs.declared.round.RoundParts.{RoundParts as Round}
use Rattle.dkg_ceremony.specs.declared.sign.Domain.{Domain}
use Rattle.dkg_ceremony.specs.declared.sign.Domain.TheVariants as domains
use Rattle.dkg_ceremony.specs.declared.signed_log.SignedDealerLog.{SignedDealerLog}
use Rattle.dkg_types.specs.PayloadCodes.{PayloadFits, its_log, payload_at, payload_grammar, payload_spelling}
use Rattle.dkg_infos.specs.Units.{unit_at, unit_grammar, unit_spelling}
use Rattle.dkg_infos.specs.declared.directory.Unit as directory
use Rattle.dkg_types.specs.declared.payload.Payload.{Payload}
use Rattle.dkg_types.specs.declared.payload.Payload.TheVariants as payload
use Rattle.dkg_text.specs.declared.script.BlockLine.{BlockLine}
use Rattle.dkg_text.specs.declared.script.Event.{Event}
use Rattle.dkg_text.specs.declared.script.Event.TheVariants as event
use Rattle.dkg_script.specs.Readings.{Limits, unit_payload}
use Rattle.dkg_store.specs.Events.{IsEvent, no_limit}
use Rattle.dkg_store.specs.declared.event.Event.TheVariants as events
use Rattle.dkg_core.specs.Agreeing.{BringsRecords}
use Rattle.dkg_lives.specs.Epochs.{IsLifeInForm}
use Rattle.dkg_lives.specs.Given.{AreBytes, Lived, at_step}
use Rattle.dkg_lives.proofs.FitsRead.{message_fits}
use Rattle.dkg_lives.proofs.Former.{BringsBlock, BringsOther, BringsPeer, IsMadeOf, IsMessage, brings_kind, event_in_form}
use Rattle.dkg_lives.proofs.Idle.{idle_brings}
use Rattle.dkg_lives.proofs.Living.{holds_at}

some_is : {A : Type 0} {x y : A} → ◌≡◌ {A = Option A} (Some x) (Some y) → x ≡ y
some_is e = cc

none_some : {A : Type 0} {x : A} → ◌≡◌ {A = Option A} None (Some x) → ⊥
none_some e = cc

-- A LOG that a block carries

abbrev units : (most version : ℕ) → Limits
units most version = record { limit = most; version = version; addressed = false }

-- what is read as one fits under the limit
log_read : (most version : ℕ) (its : Option (List ℕ)) → IfSome its IsBytes → (log : SignedDealerLog) → option_and_then its_log (option_and_then (unit_payload (units most version)) its) ≡ Some log → SignedFits most log
log_read most version None are log is = absurd (none_some is)
log_read most version (Some bytes) are log is = by_read (whole (payload_at (λ peers. unit_at) (λ d peers. true) most version bytes)) refl is
  where
    by_read : (r : Result (Payload directory.Unit) CodecError) → whole (payload_at (λ peers. unit_at) (λ d peers. true) most version bytes) ≡ r → option_and_then its_log (result_ok r) ≡ Some log → SignedFits most log
    by_read (Err e) read is = absurd (none_some is)
    by_read (Ok (payload.EpochInfo i)) read is = absurd (none_some is)
    by_read (Ok (payload.DealerLog s)) read is =
        subst (SignedFits most) (some_is is)
        (decoded_found (PayloadFits (λ peers (u : directory.Unit). ⊤) (λ d peers. true) most version) (payload_spelling unit_spelling) (payload_at (λ peers. unit_at) (λ d peers. true) most version)
        (payload_grammar (λ peers (u : directory.Unit). ⊤) unit_spelling (λ peers. unit_at) (λ d peers. true) (λ peers. unit_grammar) most version) bytes are (Ok (payload.DealerLog s)) read).0

-- .. and under a record's
log_fits : (most : ℕ) (log : DealerLog) → most ≤ 2 ^ 30 → LogFits most log → LogFits no_limit log
log_fits most log few fit = record { one = public; other = entries }
  where
    public : PublicFits no_limit log.public
    public = record { some = (fit.one).some; in_bound = under (length log.public) most (fit.one).in_bound few; small = (fit.one).small; elements = (fit.one).elements }
      where
        under : (a b : ℕ) → a ≤ b → b ≤ 2 ^ 30 → a ≤ 2 ^ 32 - 1
        under a b one two = omega (arith, one, two)

    entries : EntriesFit no_limit log.entries
    entries = record { in_bound = under (length log.entries) most (fit.other).in_bound few; small = (fit.other).small; each = (fit.other).each }
      where
        under : (a b : ℕ) → a ≤ b → b ≤ 2 ^ 30 → a ≤ 2 ^ 32 - 1
        under a b one two = omega (arith, one, two)

log_event : (most height : ℕ) (log : SignedDealerLog) → most ≤ 2 ^ 30 → height < 2 ^ 64 → SignedFits most log → IsEvent (events.LogAt log.dealer height log.log)
log_event most height log few low fit = record { one = fit.one; other = record { one = low; other = log_fits most log.log few (fit.other).one } }

-- A LIFE

module _ (g : Lived) (here : IsLifeInForm g) where
  is_mark : (key : ℕ) (domain : Domain) (content : List ℕ) → length (mark_of key domain content) ≡ 8
  unfolding mark_of
  is_mark key domain content =
      let taken = length-take 8 (sha256 (to_be_bytes w32 key ++ domain_byte domain ∷ [] ++ content)) in
      let long = length-sha256 (to_be_bytes w32 key ++ domain_byte domain ∷ [] ++ content) in omega (arith, taken, long)

  pub acks_fit : (n : ℕ) (round : Round) (public : List ℕ) → IsEvent (events.Ack (at_step g n).me ((at_step g n).rules.ack_of (at_step g n).me round (at_step g n).me public))
  unfolding at_step
  acks_fit n round public = record { one = here.form.own; other = is_mark g.script.config.me domains.Ack (ack_content round g.script.config.me public) }

  few_at : (n : ℕ) → (at_step g n).limit ≤ 2 ^ 30
  unfolding at_step
  few_at n = here.form.in_bound

  -- each block's payload is bytes, and its height is one of 64 bits
  module _ (bytes : AreBytes g.script.blocks) (heights : AllByRecursion (λ line. line.height < 2 ^ 64) g.script.blocks) where
    block_brings : (number : ℕ) (made : IsMadeOf g.script number) (log : SignedDealerLog) → option_and_then its_log (made.block).payload ≡ Some log → IsEvent (events.LogAt log.dealer (made.block).height log.log)
    block_brings number made log is =
        log_event (non_zero_u32_get g.script.config.limit) (made.block).height log here.form.in_bound
        (subst (λ (h : ℕ). h < 2 ^ 64) (sym made.height) (holds_at (λ (line : BlockLine). line.height < 2 ^ 64) g.script.blocks number made.line heights made.line_is))
        (log_read (non_zero_u32_get g.script.config.limit) g.script.config.max_mode.0 (made.line).payload (holds_at (λ (line : BlockLine). IfSome line.payload IsBytes) g.script.blocks number made.line bytes made.line_is) log
        (ap (λ (o : Option (Payload directory.Unit)). option_and_then its_log o) (sym made.payload) ∙ is))

    pub brings_fit : (i : ℕ) (its : Event) → slice_get g.life.events i ≡ Some its → (m : IsMessage g its) → BringsRecords (at_step g (suc i)) m.message
    brings_fit i its is m = by_kind (brings_kind g its m.message m.brings)
      where
        by_kind : BringsBlock g its m.message ⊎ (BringsPeer its m.message ⊎ BringsOther its m.message) → BringsRecords (at_step g (suc i)) m.message
        by_kind (inl b) = subst (BringsRecords (at_step g (suc i))) (sym b.3) (λ log is. block_brings b.0 b.1 log is)
        by_kind (inr (inl p)) =
            subst (BringsRecords (at_step g (suc i))) (sym p.3)
            (message_fits (at_step g (suc i)) p.0 p.1 (few_at (suc i)) (event_in_form g here i (event.Peer p.0 p.1) (is ∙ ap (λ (e : Event). Some e) p.2)))
        by_kind (inr (inr mail)) = subst (BringsRecords (at_step g (suc i))) (sym mail.1) (idle_brings (at_step g (suc i)) mail.0 mail.2)
