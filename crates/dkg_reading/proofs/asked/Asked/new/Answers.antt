use Rattle.std.proofs.Common.{◌∙◌, ap, is_some, Option}
use Rattle.std.specs.Prelude.{⊤}
use Rattle.std.specs.FinMap.{FinMap, get, get-empty}
use Rattle.std.specs.Ordering.{nat_cmp}
use Rattle.dkg_reading.proofs.asked.Asked.new.Goals as goal

pub returns : goal.returns
returns c = λ request. ap (λ (m : FinMap nat_cmp ⊤). is_some (get m request)) c.new.ensures ∙ ap (λ (o : Option ⊤). is_some o) (get-empty nat_cmp request)
