use Rattle.std.proofs.Common.{◌≡◌, [], ◌∷◌, ◌++◌, length, rules}
use Rattle.std.specs.List.{flat_map}
use Rattle.xt_record.specs.Fields.{magic, words}
use Rattle.xt_record.specs.RecordingParts.{entry_bytes}
use Rattle.xt_record.proofs.Putting.{recording_joined}
use Rattle.xt_record.proofs.writing.put_recording.Goals as goal

pub returns : goal.returns
returns c =
    let out = c.args.out.now.items in
    let file = c.args.file.now in
    let r = c.args.run.now in
    let points = c.args.points.now in
    let l1 = c.extend_from_slice.new.self.items in
    let l2 = c.put_words.new.out.items in
    let l3 = c.extend_from_slice-2.new.self.items in
    let l4 = c.put_options.new.out.items in
    let l5 = c.put_words-2.new.out.items in
    let l6 = c.put_entries.new.out.items in
    let l7 = c.put_words-3.new.out.items in
    let letters : l1 ≡ out ++ magic = search rules in
    let head : l2 ≡ l1 ++ words (2 ∷ length file ∷ []) = search rules in
    let count : l5 ≡ l4 ++ words (length r.history ∷ []) = search rules in
    let entries : l6 ≡ l5 ++ flat_map entry_bytes r.history = search rules in
    let ends : l7 ≡ l6 ++ words (length points ∷ []) = search rules in
    recording_joined file r points out l1 l2 l3 l4 l5 l6 l7 c.put_points.new.out.items
    letters head c.in_ok-extend_from_slice-2.ensures.items c.in_ok-put_options.ensures count entries ends c.in_ok-put_points.ensures
