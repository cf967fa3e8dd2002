-- Rows and what is written of them, as a check of the definitions.
use Rattle.std.proofs.Common.{◌≡◌, [], ◌∷◌, List, ℕ, refl, pos, negsuc, codes}
use Rattle.std.specs.Fmt.{digits}
use Rattle.csv.specs.Writing.{fields_text, is_blank, escaped}
use Rattle.lft_ir.specs.Parts.{Parts}
use Rattle.lft_ir.specs.declared.parts.{Name.TheVariants.{Port, Action}, Value.TheVariants.{Bare, Int}}
use Rattle.lft_ir.specs.declared.steps.row.{Row.Row, Step.{Step, TheVariants.{Start, Read, Write, Schedule, Stop, End}}}
use Rattle.lft_trace.specs.{inner.Written.csv_text, Written.{line, row_fields, table_text, written_records}}

abbrev program : Parts
program = record {
  ports = [];
  actions = [];
  timers = [];
  reactions = [];
  names = record { instances = codes "main" ∷ []; ports = codes "main.a.x" ∷ codes "main.b.y" ∷ []; actions = codes "main.n" ∷ []; timers = []; reactions = codes "main#1" ∷ codes "main.a#1" ∷ [] };
}

abbrev row : Step → Row
row s = record { worker = 30; tag = record { time = 5000; micro = 1 }; reaction = 1; step = s }

abbrev written : Step → List ℕ
written s = line (row_fields program (row s))

started : written Start ≡ codes "start,30,5000,1,main.a#1,,,\n"
unfolding digits
started = refl

read_bare : written (Read (Port 1) Bare) ≡ codes "read,30,5000,1,main.a#1,main.b.y,,\n"
unfolding digits
read_bare = refl

wrote : written (Write (Port 0) (Int (negsuc 11))) ≡ codes "write,30,5000,1,main.a#1,main.a.x,-12,\n"
unfolding digits
wrote = refl

scheduled : written (Schedule (Action 0) (Int (pos 0)) 0) ≡ codes "schedule,30,5000,1,main.a#1,main.n,0,\n"
unfolding digits
scheduled = refl

scheduled_later : written (Schedule (Action 0) Bare 70) ≡ codes "schedule,30,5000,1,main.a#1,main.n,,70\n"
unfolding digits
scheduled_later = refl

stopped : written Stop ≡ codes "stop,30,5000,1,main.a#1,,,\n"
unfolding digits
stopped = refl

ended : written End ≡ codes "end,30,5000,1,main.a#1,,,\n"
unfolding digits
ended = refl

no_rows : table_text program [] ≡ codes "event,worker,time,microstep,reaction,name,value,delay\n"
no_rows = refl

two_rows : table_text program (row Start ∷ row End ∷ []) ≡ codes "event,worker,time,microstep,reaction,name,value,delay\nstart,30,5000,1,main.a#1,,,\nend,30,5000,1,main.a#1,,,\n"
unfolding digits
two_rows = refl

-- csv writes the same where nothing needs quotes
as_csv : csv_text (written_records program (row Start ∷ [])) ≡ table_text program (row Start ∷ [])
unfolding digits is_blank fields_text escaped
as_csv = refl
