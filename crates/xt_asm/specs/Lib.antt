-- Profile: the assembly language; ASSEMBLY.md describes it with every fault and the order of
-- faults. The names and operands of instructions are ISA's. No pass of the definitions keeps a
-- state: each says what stands at a line, given the lines before and after it (`Around` of
-- `xt_layout`).
-- Profile: values and addresses do not wrap, so that a sum that is too large is seen. Addresses are
-- defined for texts with faults too. Two uses of a pool share a word by their terms, not by their
-- values, because the pool is known before any address.
pub mod Operands
pub mod Kinds
pub mod Widths
pub mod Pieces
pub mod Images
pub mod Uses
pub mod Contexts
pub mod Walks
pub mod AssemblyLaws
pub mod Maps
