use Rattle.std.proofs.Common.{sym}
use Rattle.dkg_rising.proofs.Indexes.{gap_of_none, gap_behind, at_last}
use Rattle.dkg_rising.proofs.rising_map.index_of.Goals as goal

pub returns-in-None-clause-absent : goal.returns-in-None-clause-absent
returns-in-None-clause-absent g c = gap_of_none c.args.rising.now c.args.number c.in-None.ensures.item.3

pub returns-in-Some-clause-absent : goal.returns-in-Some-clause-absent
returns-in-Some-clause-absent g c = gap_behind c.args.rising.now c.requires c.args.number c.in-Some.last.now (sym c.in-Some.ensures.value) c.if-last-number.true

pub returns-in-Some-2-clause-there : goal.returns-in-Some-2-clause-there
returns-in-Some-2-clause-there g c = at_last c.args.rising.now c.args.number c.in-Some.last.now (sym c.in-Some.ensures.value) c.if-last-number-2.true
