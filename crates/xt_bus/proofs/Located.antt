-- What is read and written at a place of a region's list, as the state of the memory says it.
use Rattle.std.proofs.Common.{◌≡◌, ℕ, ◌+◌, ◌<◌, true, List, length, slice_index, slice_set, Some, sym, ap, ◌∙◌}
use Rattle.xt_map.specs.declared.regions.Region.{Region}
use Rattle.xt_map.specs.declared.access.Access.{Access}
use Rattle.xt_map.specs.Regions.{is_memory, is_mapped}
use Rattle.xt_map.specs.Memory.{byte_at, with_byte}
use Rattle.xt_map.specs.Serving.{access_reply, reply_to}
use Rattle.xt_bus.specs.ListBytes.{number_in, changed_in}
use Rattle.xt_bus.specs.States.{MemoryState, memory_state, part_bytes, memory_after_access}
use Rattle.xt_bus.proofs.Regional.{list_in, with_list, first_of, size_of, byte_is, part_is, with_byte_is, reply_is, past_is}

pub byte_at_place : (r : Region) (s now : MemoryState) (xs : List ℕ) (at addr : ℕ) → s ≡ now → is_memory (Some r) ≡ true → addr ≡ first_of r + at → at < size_of r
    → xs ≡ list_in r s.contents → slice_index xs at ≡ byte_at now.contents addr
byte_at_place r s now xs at addr is h e l x =
    ap (λ ys. slice_index ys at) x
    ∙ sym (byte_is r s.contents at h l)
    ∙ ap (λ a. byte_at s.contents a) (sym e)
    ∙ ap (λ (t : MemoryState). byte_at t.contents addr) is

pub part_in_place : (r : Region) (s now : MemoryState) (xs : List ℕ) → s ≡ now → is_memory (Some r) ≡ true → xs ≡ list_in r s.contents → length xs ≡ size_of r
    → xs ≡ part_bytes now.contents (first_of r) (size_of r)
part_in_place r s now xs is h x len =
    x
    ∙ sym (part_is r s.contents h (ap length (sym x) ∙ len))
    ∙ ap (λ (t : MemoryState). part_bytes t.contents (first_of r) (size_of r)) is

pub put_at_place : (r : Region) (s now : MemoryState) (at addr b : ℕ) → s ≡ now → is_memory (Some r) ≡ true → addr ≡ first_of r + at → at < size_of r
    → memory_state (with_list r s.contents (slice_set (list_in r s.contents) at b)) s.room ≡ memory_state (with_byte now.contents addr b) now.room
put_at_place r s now at addr b is h e l =
    ap (λ m. memory_state m s.room) (sym (with_byte_is r s.contents at b h l))
    ∙ ap (λ a. memory_state (with_byte s.contents a b) s.room) (sym e)
    ∙ ap (λ (t : MemoryState). memory_state (with_byte t.contents addr b) t.room) is

pub replied_at_place : (r : Region) (s now : MemoryState) (xs : List ℕ) (at : ℕ) (a : Access) (reply : ℕ) → s ≡ now → is_memory (Some r) ≡ true → is_mapped a ≡ true
    → a.addr ≡ first_of r + at → at < size_of r → xs ≡ list_in r s.contents → reply ≡ access_reply a.kind (number_in xs at a.size) → reply ≡ reply_to now.contents a
replied_at_place r s now xs at a reply is h k e l x is_reply =
    is_reply
    ∙ ap (λ ys. access_reply a.kind (number_in ys at a.size)) x
    ∙ sym (reply_is r s.contents at a h k e l)
    ∙ ap (λ (t : MemoryState). reply_to t.contents a) is

pub served_at_place : (r : Region) (s now : MemoryState) (xs ys zs : List ℕ) (at : ℕ) (a : Access) → s ≡ now → is_memory (Some r) ≡ true → is_mapped a ≡ true
    → a.addr ≡ first_of r + at → at < size_of r → xs ≡ list_in r s.contents → ys ≡ changed_in xs at a.size a.kind → zs ≡ ys
    → memory_state (with_list r s.contents zs) s.room ≡ memory_after_access now a
served_at_place r s now xs ys zs at a is h k e l x y z =
    ap (λ ws. memory_state (with_list r s.contents ws) s.room) (z ∙ y ∙ ap (λ ws. changed_in ws at a.size a.kind) x)
    ∙ ap (λ m. memory_state m s.room) (sym (past_is r s.contents at a h k e l))
    ∙ ap (λ (t : MemoryState). memory_after_access t a) is
