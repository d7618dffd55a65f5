-- The number and the text of a status.
use Rattle.std.specs.Prelude.{ℕ, List, [], ◌++◌, codes, decimal}
use Rattle.tla_ast.specs.Fault.{kind_text}
use Rattle.proof_manager.specs.declared.status.Status.{Status}
use Rattle.proof_manager.specs.declared.status.Status.TheVariants as status

-- the program's exit status
abbrev pub code_of : Status → ℕ
code_of status.AllProved = 0
code_of status.NotAll = 1
code_of status.Words = 2
code_of (status.Refused name place kind) = 3
code_of (status.NotFound name) = 4
code_of status.ReadFault = 5
code_of status.CacheRead = 6
code_of status.WriteFault = 7
code_of status.CacheWrite = 8
code_of status.Memory = 9
code_of status.MemoryLeaf = 10

-- what is printed of a status on standard error
abbrev pub text_of : Status → List ℕ
text_of status.AllProved = []
text_of status.NotAll = []
text_of status.Words = codes "words"
text_of (status.Refused name place kind) = codes "refused " ++ name ++ codes " " ++ decimal place.line ++ codes ":" ++ decimal place.column ++ codes " " ++ kind_text kind
text_of (status.NotFound name) = codes "not found " ++ name
text_of status.ReadFault = codes "read fault"
text_of status.CacheRead = codes "cache read fault"
text_of status.WriteFault = codes "write fault"
text_of status.CacheWrite = codes "cache write fault"
text_of status.Memory = codes "memory"
text_of status.MemoryLeaf = codes "memory in a leaf"
