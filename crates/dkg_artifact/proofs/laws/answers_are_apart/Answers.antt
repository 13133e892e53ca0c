use Rattle.dkg_artifact.proofs.Standing.{need_alone, logs_alone}
use Rattle.dkg_artifact.proofs.laws.answers_are_apart.Goals as goal

pub returns : goal.returns
returns g c = record {
  need = λ round bounds tip path b answer some under said way. need_alone bounds tip some g.C.Ceremony.check_log_of round path b answer under said way;
  logs = λ round bounds tip path b answer some under said done. logs_alone bounds tip some g.C.Ceremony.check_log_of round path b answer under said done;
}
