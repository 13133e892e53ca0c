use Rattle.std.proofs.Common.{arith}
use Rattle.dkg_values.specs.Grammar.{decoded_found, decoded_only}
use Rattle.dkg_values.proofs.codec.decode_cfg.Goals as goal

pub returns-clause-found : goal.returns-clause-found
returns-clause-found g c = decoded_found (g.T.Read.fits c.args.cfg.now) g.T.Spelled.spelling (g.T.Read.read_of c.args.cfg.now) (g.met.T.Read.grammar c.args.cfg.now) c.args.bytes.now (λ i. omega (arith, c.type_inv.bytes i)) c.decode_whole.result c.decode_whole.ensures

pub returns-clause-only : goal.returns-clause-only
returns-clause-only g c = decoded_only (g.T.Read.fits c.args.cfg.now) g.T.Spelled.spelling (g.T.Read.read_of c.args.cfg.now) (g.met.T.Read.grammar c.args.cfg.now) c.args.bytes.now c.decode_whole.result c.decode_whole.ensures
