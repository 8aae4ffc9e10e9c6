use Rattle.meters.specs.Registers.{unread_within, unread_small}
use Rattle.meters.proofs.register.held.Register.new.Goals as goal

pub invariant_of-result-clause-within : goal.invariant_of-result-clause-within
invariant_of-result-clause-within c = λ k. unread_within 366 k _

pub invariant_of-result-clause-small : goal.invariant_of-result-clause-small
invariant_of-result-clause-small c = λ k. unread_small 366 k
