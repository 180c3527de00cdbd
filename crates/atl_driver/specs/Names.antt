-- The names of the faults, by their numbers.
use Rattle.std.specs.Prelude.{ℕ, List, codes, ◌==◌, nat_lt, if◌then◌else◌}

-- a number that no fault has
abbrev pub unnamed : List ℕ
unnamed = codes "Unnamed"

-- the faults of a source
abbrev pub source_fault_name : ℕ → List ℕ
source_fault_name number =
    if number == 1 then codes "NotUtf8"
    else if number == 2 then codes "BadToken"
    else if number == 3 then codes "BadSyntax"
    else if number == 4 then codes "TooDeep"
    else if number == 5 then codes "UnknownName"
    else if number == 6 then codes "NameTwice"
    else if number == 7 then codes "ReservedName"
    else if number == 8 then codes "NumberTooLarge"
    else if number == 9 then codes "NotAffine"
    else if number == 10 then codes "RankMismatch"
    else if number == 11 then codes "ShapesDiffer"
    else if number == 12 then codes "RankTooLarge"
    else if number == 13 then codes "ExtentNotShown"
    else if number == 14 then codes "BadExample"
    else if number == 15 then codes "TooManyNodes"
    else if number == 16 then codes "CoefficientTooLarge"
    else if number == 17 then codes "IndexTooLong"
    else unnamed

-- the faults of a script
abbrev pub script_fault_name : ℕ → List ℕ
script_fault_name number =
    if number == 20 then codes "ScriptSyntax"
    else if number == 21 then codes "NoSuchRule"
    else if number == 22 then codes "NoSuchPath"
    else if number == 23 then codes "PatternMismatch"
    else if number == 24 then codes "BadArgument"
    else if number == 25 then codes "ConditionNotShown"
    else if number == 26 then codes "ExtraLines"
    else unnamed

-- the faults of a last version
abbrev pub final_fault_name : ℕ → List ℕ
final_fault_name number =
    if number == 30 then codes "NotLowerable"
    else if number == 31 then codes "AccessNotShown"
    else if number == 33 then codes "DropNotShown"
    else if number == 34 then codes "IndexTooLarge"
    else if number == 35 then codes "ParallelNotGen"
    else if number == 36 then codes "LetInParallel"
    else if number == 37 then codes "NestedParallel"
    else if number == 38 then codes "NoSuchGoal"
    else unnamed

-- the faults of given tensors and of a run
abbrev pub run_fault_name : ℕ → List ℕ
run_fault_name number =
    if number == 40 then codes "BadData"
    else if number == 41 then codes "SizesNotAllowed"
    else if number == 42 then codes "WrongCount"
    else if number == 43 then codes "TooBigToRun"
    else if number == 44 then codes "TooMuchWork"
    else if number == 45 then codes "TooManyActions"
    else if number == 50 then codes "BadC"
    else if number == 51 then codes "Stuck"
    else unnamed

-- the name of a fault
abbrev pub fault_name : ℕ → List ℕ
fault_name number =
    if nat_lt number 20 then source_fault_name number
    else if nat_lt number 30 then script_fault_name number
    else if nat_lt number 40 then final_fault_name number
    else run_fault_name number
