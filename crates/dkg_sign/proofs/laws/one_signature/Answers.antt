use Rattle.dkg_sign.proofs.Keys.{one_value, chain_keeps, chain_value}
use Rattle.dkg_sign.proofs.laws.one_signature.Goals as goal

pub returns-clause-quorums : goal.returns-clause-quorums
returns-clause-quorums c = one_value

pub returns-clause-chain : goal.returns-clause-chain
returns-clause-chain c = chain_keeps

pub returns-clause-epochs : goal.returns-clause-epochs
returns-clause-epochs c = chain_value
