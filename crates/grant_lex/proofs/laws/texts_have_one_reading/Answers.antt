use Rattle.grant_lex.proofs.Answered.{cut_or_fault, cuts_same, faults_same}
use Rattle.grant_lex.proofs.laws.texts_have_one_reading.Goals as goal

pub returns : goal.returns
returns c = record { tokens = cuts_same; faults = faults_same; apart = cut_or_fault }
