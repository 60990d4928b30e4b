use Rattle.cdb_front.proofs.engine_calls.EngineStoreCalls.step.Goals as goal

pub returns-clause-step : goal.returns-clause-step
returns-clause-step g c = λ w origin s stays. c.step.ensures.step w origin s stays
