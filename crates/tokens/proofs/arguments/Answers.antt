use Rattle.tokens.proofs.arguments.Goals as goal

pub returns-in-BuiltIn : goal.returns-in-BuiltIn
returns-in-BuiltIn c = cc
