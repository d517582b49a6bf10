-- What a call answers.
--
--   call_error      why a call is not done where classifying is not
--   fault_numbers   a fault as numbers
--   unless_refused   what a call comes to that is done unless it is refused
--   status_of       the status of what a call came to
--   told_fault      the fault that it tells: all 0 unless it was refused
use Rattle.std.specs.Prelude.{Ok, Err, Result}
use Rattle.faults.specs.declared.Fault.{Fault}
use Rattle.faults.specs.Faults.{refusal_number}
use Rattle.run_list.specs.declared.error.ListError.{ListError}
use Rattle.run_list.specs.declared.error.ListError.TheVariants as classify
use Rattle.tuchovai_c.specs.declared.calls.CallError.{CallError}
use Rattle.tuchovai_c.specs.declared.calls.CallError.TheVariants as call
use Rattle.tuchovai_c.specs.declared.calls.TuchovaiFault.{TuchovaiFault}
use Rattle.tuchovai_c.specs.declared.numbers.Status.{Status}
use Rattle.tuchovai_c.specs.declared.numbers.Status.TheVariants as status
use Rattle.tuchovai_c.specs.Numbers.{layer_number}

abbrev pub call_error : ListError → CallError
call_error classify.Memory = call.NoMemory
call_error (classify.Refused f) = call.Refused f

abbrev pub fault_numbers : Fault → TuchovaiFault
fault_numbers f =
    record { number = refusal_number f.refusal; layer = layer_number f.layer; at = f.place.at; «record» = f.place.«record» }

abbrev pub unless_refused : {A : Type 0} → Result A Fault → Result (Unit {0}) CallError
unless_refused (Ok a) = Ok tt
unless_refused (Err f) = Err (call.Refused f)

abbrev pub status_of : Result (Unit {0}) CallError → Status
status_of (Ok u) = status.Done
status_of (Err (call.Refused f)) = status.Refused
status_of (Err call.NoMemory) = status.NoMemory
status_of (Err call.TableTooShort) = status.TableTooShort
status_of (Err call.UnknownOptions) = status.UnknownOptions

abbrev pub told_fault : Result (Unit {0}) CallError → TuchovaiFault
told_fault (Ok u) = record { number = 0; layer = 0; at = 0; «record» = 0 }
told_fault (Err (call.Refused f)) = fault_numbers f
told_fault (Err call.NoMemory) = record { number = 0; layer = 0; at = 0; «record» = 0 }
told_fault (Err call.TableTooShort) = record { number = 0; layer = 0; at = 0; «record» = 0 }
told_fault (Err call.UnknownOptions) = record { number = 0; layer = 0; at = 0; «record» = 0 }
