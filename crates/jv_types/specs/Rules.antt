-- The number and the name under which each rule is printed.
use Rattle.std.specs.Prelude.{ℕ, List, codes}
use Rattle.jv_types.specs.declared.rule.Rule.{Rule}
use Rattle.jv_types.specs.declared.rule.Rule.TheVariants.{NotClass, Version, NameMismatch, InBoth, ReservedName, MissingClass, LibraryNamesApplication, Circular, SuperKind, FinalOverridden, Unresolved, NoAccess, InvokeDynamic, Reflection, NativeMethod, Subroutine, CodeForm, StackMap, TypeRule, NoMain, LibraryForm, NotBuiltYet}

-- the number of a rule, as it is printed
abbrev pub rule_number : Rule → ℕ
rule_number NotClass = 1
rule_number Version = 2
rule_number NameMismatch = 3
rule_number InBoth = 4
rule_number ReservedName = 5
rule_number MissingClass = 6
rule_number LibraryNamesApplication = 7
rule_number Circular = 8
rule_number SuperKind = 9
rule_number FinalOverridden = 10
rule_number Unresolved = 11
rule_number NoAccess = 12
rule_number InvokeDynamic = 13
rule_number Reflection = 14
rule_number NativeMethod = 15
rule_number Subroutine = 16
rule_number CodeForm = 17
rule_number StackMap = 18
rule_number TypeRule = 19
rule_number NoMain = 20
rule_number LibraryForm = 21
rule_number NotBuiltYet = 22

-- the name of a rule, as it is printed
abbrev pub rule_name : Rule → List ℕ
rule_name NotClass = codes "NotClass"
rule_name Version = codes "Version"
rule_name NameMismatch = codes "NameMismatch"
rule_name InBoth = codes "InBoth"
rule_name ReservedName = codes "ReservedName"
rule_name MissingClass = codes "MissingClass"
rule_name LibraryNamesApplication = codes "LibraryNamesApplication"
rule_name Circular = codes "Circular"
rule_name SuperKind = codes "SuperKind"
rule_name FinalOverridden = codes "FinalOverridden"
rule_name Unresolved = codes "Unresolved"
rule_name NoAccess = codes "NoAccess"
rule_name InvokeDynamic = codes "InvokeDynamic"
rule_name Reflection = codes "Reflection"
rule_name NativeMethod = codes "NativeMethod"
rule_name Subroutine = codes "Subroutine"
rule_name CodeForm = codes "CodeForm"
rule_name StackMap = codes "StackMap"
rule_name TypeRule = codes "TypeRule"
rule_name NoMain = codes "NoMain"
rule_name LibraryForm = codes "LibraryForm"
rule_name NotBuiltYet = codes "NotBuiltYet"
