use Rattle.fields.specs.declared.Parts.TheVariants.{Assume, Theorem}
use Rattle.dispatch.proofs.Judges.{by-any-file, by-any-length, by-cut, by_end, by-end-of-file, by-extends, by-module, by_parts, declaration-asks, definition-asks, end-of-asks, extends-asks, formula-asks, instance-asks, module-asks}
use Rattle.dispatch.proofs.judge_field.Goals as goal

pub module_field-requires : goal.module_field-requires
module_field-requires c = search module-asks

pub extends_field-requires : goal.extends_field-requires
extends_field-requires c = extends-asks _ _ _ _ _ _ _ _ _ c.in-Extends.is c.requires

pub constant_stands-requires : goal.constant_stands-requires
constant_stands-requires c = search declaration-asks

pub variable_stands-requires : goal.variable_stands-requires
variable_stands-requires c = search declaration-asks

pub definition_field-requires : goal.definition_field-requires
definition_field-requires c = definition-asks _ _ _ _ _ _ _ _ _ _ _ c.in-Definition.is c.requires

pub instance_field-requires : goal.instance_field-requires
instance_field-requires c = search instance-asks

pub end_field-requires : goal.end_field-requires
end_field-requires c = end-of-asks _ _ _ _ _ _ _ c.in-EndModule.is c.requires

pub assume_field-requires : goal.assume_field-requires
assume_field-requires c = search formula-asks

pub theorem_field-requires : goal.theorem_field-requires
theorem_field-requires c = search formula-asks

pub returns-in-Module : goal.returns-in-Module
returns-in-Module c = search by-module

pub returns-in-Extends : goal.returns-in-Extends
returns-in-Extends c = search by-extends

pub returns-in-Constant : goal.returns-in-Constant
returns-in-Constant c = search by-any-file

pub returns-in-Variable : goal.returns-in-Variable
returns-in-Variable c = search by-any-file

pub returns-in-Definition : goal.returns-in-Definition
returns-in-Definition c = search by_parts

pub returns-in-Instance : goal.returns-in-Instance
returns-in-Instance c = search by_parts

pub returns-in-EndModule : goal.returns-in-EndModule
returns-in-EndModule c = search by_end

pub returns-in-Assume : goal.returns-in-Assume
returns-in-Assume c = by-any-length _ _ _ _ _ _ _ _ _ (Assume _) _ _ c.in-Assume.is c.assume_field.ensures

pub returns-in-Theorem : goal.returns-in-Theorem
returns-in-Theorem c = by-any-length _ _ _ _ _ _ _ _ _ (Theorem _) _ _ c.in-Theorem.is c.theorem_field.ensures

pub returns-in-Cut : goal.returns-in-Cut
returns-in-Cut c = by-cut _ _ _ _ _ _ _ c.in-Cut.is c.requires

pub returns-in-EndOfFile : goal.returns-in-EndOfFile
returns-in-EndOfFile c = by-end-of-file _ _ _ _ _ _ _ c.in-EndOfFile.is c.requires
