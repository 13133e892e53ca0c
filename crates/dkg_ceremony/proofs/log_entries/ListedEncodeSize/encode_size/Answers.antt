use Rattle.std.proofs.Common.{subst, ◌∙◌, ◌≡◌, length, List, arith}
use Rattle.dkg_ceremony.specs.LogEntries.{entries_spelling, size_done}
use Rattle.dkg_ceremony.specs.declared.log_entry.LogEntry.{LogEntry}
use Rattle.dkg_ceremony.proofs.log_entries.ListedEncodeSize.encode_size.Goals as goal

pub returns-clause-size : goal.returns-clause-size
returns-clause-size c =
    subst (λ (es : List LogEntry). c.loop-entry.size ≡ length (entries_spelling es)) (c.deref-entry-items.ensures.value ∙ c.self.view_is)
    (size_done c.deref-entry-items.result.now c.loop-entry.size c.loop-entry.entry-index (omega (arith, c.loop-entry-test.false)) c.loop-entry.invariant.is)
