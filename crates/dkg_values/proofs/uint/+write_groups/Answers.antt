use Rattle.std.proofs.Common.{arith}
use Rattle.dkg_values.specs.Uints.{wrote_groups}
use Rattle.dkg_values.proofs.uint.+write_groups.Goals as goal

pub returns-clause-ok : goal.returns-clause-ok
returns-clause-ok t c = wrote_groups c.write_groups.result c.args.out.now.items _ c.write_groups.new.out.items c.args.n (omega arith) c.in_ok-put_u8-2.ensures.ok c.write_groups.ensures.ok
