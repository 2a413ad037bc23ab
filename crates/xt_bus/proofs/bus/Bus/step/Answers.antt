use Rattle.std.proofs.Common.{◌≡◌, ap, sym, ◌∙◌, length, arith}
use Rattle.xt_map.specs.Serving.{memory_past, reply_to}
use Rattle.xt_map.specs.History.{memory_after}
use Rattle.xt_map.proofs.Grown.{memory_after_push, legal_push, of_cores_push}
use Rattle.xt_map.proofs.Sent.{access_sends}
use Rattle.xt_bus.specs.States.{MemoryState, BusState, entry}
use Rattle.xt_bus.proofs.bus.Bus.step.Goals as goal

pub invariant_of-self : goal.invariant_of-self
invariant_of-self c =
    let k = c.self.invariant in
    let e = entry c.args.core c.args.access c.serve-reply.result in
    let is = c.push_reserved.ensures.items in
    let reply : e.reply ≡ reply_to (memory_after c.self.inside.opening.contents c.self.inside.history.items) e.access =
    c.serve-reply.ensures.reply ∙ ap (λ m. reply_to m c.args.access) k.left in
    let memory : c.serve-reply.new.self.contents ≡ memory_past c.self.inside.memory.contents c.args.access = ap (λ (s : MemoryState). s.contents) c.serve-reply.ensures.state in
    let room : c.serve-reply.new.self.room ≡ c.self.inside.memory.room = ap (λ (s : MemoryState). s.room) c.serve-reply.ensures.state in
    record {
      legal = rw is (legal_push _ _ e k.legal reply);
      cores = rw is (of_cores_push _ e k.cores c.requires.core);
      left = memory ∙ ap (λ m. memory_past m c.args.access) k.left ∙ sym (ap (λ h. memory_after c.self.inside.opening.contents h) is ∙ memory_after_push c.self.inside.opening.contents c.self.inside.history.items e);
      entries = omega (arith, k.entries, c.push_reserved.ensures.len, c.push_reserved.ensures.capacity, ap (λ (s : BusState). s.spare) c.self.view_is, c.requires.spare);
      sends = omega (arith, k.sends, room, ap (λ m. length m.sent) memory, access_sends c.self.inside.memory.contents c.args.access, ap (λ (s : BusState). s.spare) c.self.view_is, c.requires.spare);
    }
