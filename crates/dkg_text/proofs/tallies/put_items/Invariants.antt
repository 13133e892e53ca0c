use Rattle.std.proofs.Common.{◌≡◌, ◌++◌, take}
use Rattle.std.specs.List.{flat_map}
use Rattle.dkg_text.specs.Summary.{item_line}
use Rattle.dkg_text.proofs.tallies.put_items.Given as goal

abbrev pub invariant-loop-item : goal.invariant-loop-item
invariant-loop-item l = l.text ≡ l.initial.text ++ flat_map (item_line l.entries) (take l.item-index l.item-items)
