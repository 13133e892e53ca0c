use Rattle.std.proofs.Common.{sym, ap, ◌∙◌, arith}
use Rattle.dkg_ceremony.specs.Finishes.{has_public}
use Rattle.dkg_store.proofs.Own.{lookup_at}
use Rattle.dkg_store.proofs.store.has_half.Goals as goal

pub returns : goal.returns
returns c = c.is_half_at.ensures ∙ ap (has_public c.args.public.now) (sym (lookup_at c.args.epoch c.args.dealer c.args.dealings.now (omega (arith, c.number-number.ensures, c.number-number.type_inv))))
