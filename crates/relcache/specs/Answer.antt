-- What a call that may be refused for memory answers.
use Rattle.std.specs.Prelude.{◌≡◌, ◌≢◌, Option, Result, Ok, Err, MatchResult}
use Rattle.std.specs.Option.{option_map}
use Rattle.model.specs.declared.value.Value.{Value}
use Rattle.model.specs.declared.value_ref.ValueRef.{ValueRef}
use Rattle.model.specs.ValueRef.{read_value}
use Rattle.model.specs.declared.patch.ColumnPatch.{ColumnPatch}
use Rattle.model.specs.declared.patch.ColumnPatchRef.{ColumnPatchRef}
use Rattle.model.specs.Patch.{read_column}
use Rattle.relcache.specs.declared.fault.RelFault.{RelFault}
use Rattle.relcache.specs.declared.fault.RelFault.TheVariants.{OutOfMemory}

-- a fault other than of memory is the one of this answer
abbrev pub IsFaultOf : {A : Type 0} → Result A RelFault → RelFault → Type 0
IsFaultOf answer fault = fault ≢ OutOfMemory → answer ≡ Err fault

-- the result is this answer, or says that memory was refused
abbrev pub Answers : {A : Type 0} → Result A RelFault → Result A RelFault → Type 0
Answers result answer = MatchResult result (λ x. answer ≡ Ok x) (IsFaultOf answer)

-- the same of what an update does to a column, as it is read
abbrev pub AnswersPatch : Result ColumnPatchRef RelFault → Result ColumnPatch RelFault → Type 0
AnswersPatch result answer = MatchResult result (λ column. answer ≡ Ok (read_column column)) (IsFaultOf answer)

-- the same of a column that is lent
abbrev pub AnswersRead : Result (Option ValueRef) RelFault → Result (Option Value) RelFault → Type 0
AnswersRead result answer = MatchResult result (λ column. answer ≡ Ok (option_map read_value column)) (IsFaultOf answer)
