-- The image and the run that a recording without a fault holds (this
-- project's own format, 'profile').
use Rattle.std.specs.Prelude.{◌≡◌, ◌≢◌, ℕ, List, ◌++◌, length, map, Some, None, Result, Ok, Err}
use Rattle.xt_map.specs.declared.access.Entry.{Entry}
use Rattle.xt_map.specs.History.{replies_of}
use Rattle.xt_trace.specs.declared.options.Options.{Options}
use Rattle.xt_trace.specs.declared.run.Run.{Run}
use Rattle.xt_trace.specs.declared.trace.Trace.{Trace}
use Rattle.xt_image.specs.declared.image.Image.{Image}
use Rattle.xt_trace.specs.Schedule.{places_from}
use Rattle.xt_trace.specs.Traces.{stop_of, trace_over}
use Rattle.xt_exec.specs.Chips.{processor}
use Rattle.xt_core.specs.Runs.{code_of, entry_of, opening_at, turns_of}
use Rattle.xt_record.specs.declared.fault.RecordFault.{RecordFault}
use Rattle.xt_record.specs.declared.fault.RecordFault.TheVariants as fault
use Rattle.xt_record.specs.Fields as field
use Rattle.xt_record.specs.Fields.{behind_image, image_in, options_at, raws_in}
use Rattle.xt_image.specs.Findings.{first}
use Rattle.xt_record.specs.Rules.{Finding, part_rules}
use Rattle.xt_record.specs.TurnRules.{run_rules}

-- what is kept of a core's trace over the replies of its entries
abbrev pub trace_from : ℕ → Image → Options → List Entry → Trace
trace_from core image o es =
    let z = trace_over (processor (code_of image)) (opening_at core (entry_of core image o) o)
    (turns_of core o) (replies_of core es) in
    record {
      core = core;
      count = length z.records;
      places = places_from 0 z.records;
      stop = stop_of z.records;
      pc = z.last.control.pc;
    }

-- the run with these entries
abbrev pub run_with : Image → Options → List Entry → Run
run_with image o es = record {
  options = o;
  history = es;
  trace0 = trace_from 0 image o es;
  trace1 = trace_from 1 image o es;
}

abbrev pub run_in : List ℕ → Run
run_in bytes =
    let rest = behind_image bytes in
    run_with (image_in bytes) (options_at rest 0) (map field.entry_of (raws_in rest))

-- the first rule that fails
unfoldable pub recording_fault : List ℕ → Finding
recording_fault bytes = first (part_rules bytes ++ run_rules bytes (image_in bytes) (run_in bytes))

-- the image and the run where no rule fails, else the first fault, unless memory ran out
abbrev pub Reads : Result (Image × Run) RecordFault → List ℕ → Finding → Type 0
Reads (Ok r) bytes finding = (finding ≡ None) × (r.0 ≡ image_in bytes) × (r.1 ≡ run_in bytes)
Reads (Err e) bytes finding = e ≢ fault.Memory → finding ≡ Some e
