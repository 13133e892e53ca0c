use Rattle.std.proofs.Common.{◌<◌, ◌^◌, length, arith}
use Rattle.dkg_reading.proofs.Rise.{no_set, set_value}
use Rattle.dkg_reading.proofs.fields.set_of.Goals as goal

pub returns-in-Ok : goal.returns-in-Ok
returns-in-Ok c =
    let few : length c.args.keys.items < 2 ^ 32 = omega (arith, c.len.ensures, c.if-len.false, c.args.keys.ok.0) in
    set_value c.args.keys.items c.in-Ok.set c.in-Ok.ensures.ok few c.in-Ok.ensures.rising

pub returns-in-Err : goal.returns-in-Err
returns-in-Err c = no_set c.args.keys.items c.in-Err.ensures.rising
