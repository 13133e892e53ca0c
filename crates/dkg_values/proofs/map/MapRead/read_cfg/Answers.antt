use Rattle.std.proofs.Common.{◌∙◌, arith}
use Rattle.dkg_values.proofs.PairsRead.{is_map}
use Rattle.dkg_values.proofs.map.MapRead.read_cfg.Goals as goal

pub invariant_of-result : goal.invariant_of-result
invariant_of-result g c = is_map c.in_ok-keys.keys.items c.in_ok-pairs.pairs.items c.in_ok-count.count (c.in_ok-pairs.ensures.keys ∙ c.deref.ensures.value) c.in_ok-keys.ensures.rising.0 (omega arith) c.in_ok-keys.ensures.rising.1 (λ i. rw (← c.deref-2.ensures.value) (c.known.ensures i))
