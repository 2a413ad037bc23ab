-- One line more of a text whose lines are gone through.
use Rattle.std.proofs.Common.{◌≡◌, ℕ, ℤ, pos, ◌+◌, ◌<◌, ◌≤◌, List, [], ◌∷◌, ◌++◌, Option, None, Result, length, take, drop, get_or, eqb, refl, sym, ap, ◌∙◌, subst, arith}
use Rattle.std.specs.Prelude.{All, map}
use Rattle.std.specs.List.{prefix_len}
use Rattle.std.proofs.lemmas.List.{length-take-le, length-map, take_more, take_all}
use Rattle.std.proofs.lemmas.List.Elements.{All-drop}
use Rattle.xt_lex.specs.declared.fault.AsmFault.{AsmFault}
use Rattle.xt_lex.specs.declared.fault.AsmFault.TheVariants as fault
use Rattle.xt_isa.specs.declared.Insn.{Insn}
use Rattle.xt_names.specs.declared.argument.OperandFault.{OperandFault}
use Rattle.xt_lex.specs.declared.labels.Label.{Label}
use Rattle.xt_parse.specs.declared.line.Line.{Line}
use Rattle.xt_layout.specs.declared.word.PoolWord.{PoolWord}
use Rattle.xt_layout.specs.Around.{each}
use Rattle.xt_layout.specs.Pools.{pool_at, words_of}
use Rattle.xt_layout.specs.Addresses.{labels_of, line_addresses, word_addresses}
use Rattle.xt_layout.specs.Sizes.{pool_size}
use Rattle.xt_layout.specs.Spots.{address, spot_at}
use Rattle.xt_layout.proofs.Each.{Finds, each_at, each_map, finds_here, finds_more, length-each}
use Rattle.xt_asm.specs.declared.operands.Context.{Context}
use Rattle.xt_asm.specs.Contexts.{IsShortWord, LineFault, own_fault, piece_source, site_of}
use Rattle.xt_asm.specs.Operands.{Site, insn_at, open_position, site_at, target_of}
use Rattle.xt_asm.specs.Pieces.{ArePieces, IsPiece, Source, source_at, sources_of}
use Rattle.xt_asm.specs.Uses.{target_at}
use Rattle.xt_asm.specs.Walks.{AreOf, own_at, own_first, words_behind}
use Rattle.xt_asm.proofs.Pooling.{Cut, all_behind, cut, pool_long, words_short}

-- ---- where a statement stands

address_at : (lines : List Line) (addresses : List ℤ) (k : ℕ) (l : Line) (d : ℤ) → addresses ≡ map pos (line_addresses lines) → k < length lines → l ≡ get_or lines k l →
    get_or addresses k d ≡ pos (address (spot_at (words_of lines) (take k lines) l))
unfolding line_addresses
address_at lines addresses k l d e lt is =
    let f : List Line → Line → List Line → ℕ = λ before l rest. address (spot_at (words_of lines) before l) in
    ap (λ xs. get_or xs k d) (e ∙ each_map (λ n. pos n) f lines) ∙ each_at (λ before l rest. pos (f before l rest)) lines k d l lt is

addresses_long : (lines : List Line) (addresses : List ℤ) → addresses ≡ map pos (line_addresses lines) → length addresses ≡ length lines
unfolding line_addresses
addresses_long lines addresses e = ap length e ∙ length-map (line_addresses lines) pos ∙ length-each (λ before l rest. address (spot_at (words_of lines) before l)) lines

target_here : (lines : List Line) (targets : List (Option ℤ)) (k : ℕ) (l : Line) (d : Option ℤ) → targets ≡ each (target_at (words_of lines) (map pos (word_addresses lines))) lines → k < length lines → l ≡ get_or lines k l →
    get_or targets k d ≡ target_of (words_of lines) (map pos (word_addresses lines)) (open_position (take k lines)) l.statement
target_here lines targets k l d e lt is = ap (λ xs. get_or xs k d) e ∙ each_at (target_at (words_of lines) (map pos (word_addresses lines))) lines k d l lt is

-- the lists of a text are as long as it
pub record Long (lines : List Line) (addresses : List ℤ) (targets : List (Option ℤ)) : Type 0 where
  pub of_addresses : length addresses ≡ length lines
  pub of_targets : length targets ≡ length lines

pub lists_long : (lines : List Line) (words : List PoolWord) (labels : List Label) (addresses : List ℤ) (targets : List (Option ℤ)) → AreOf lines words labels addresses targets → Long lines addresses targets
lists_long lines words labels addresses targets of = record {
  of_addresses = addresses_long lines addresses of.addresses_are;
  of_targets = ap length of.targets_are ∙ length-each (target_at (words_of lines) (map pos (word_addresses lines))) lines;
}

pub site_here : (lines : List Line) (words : List PoolWord) (labels : List Label) (addresses : List ℤ) (targets : List (Option ℤ)) (k : ℕ) (l : Line) (context : Context) (d : ℤ) (t : Option ℤ) →
    AreOf lines words labels addresses targets → k < length lines → l ≡ get_or lines k l → context.labels.now ≡ labels → context.target ≡ get_or targets k t → pos context.at ≡ get_or addresses k d →
    site_of context ≡ site_at lines (take k lines) l
site_here lines words labels addresses targets k l context d t of lt is labels_is target_is at_is =
    let at_address : pos context.at ≡ pos (address (spot_at (words_of lines) (take k lines) l)) = at_is ∙ address_at lines addresses k l d of.addresses_are lt is in
    let at : context.at ≡ address (spot_at (words_of lines) (take k lines) l) = cc in
    let target : context.target ≡ target_of (words_of lines) (map pos (word_addresses lines)) (open_position (take k lines)) l.statement = target_is ∙ target_here lines targets k l t of.targets_are lt is in
    ap (λ ls. let s : Site = record { labels = ls; target = context.target; at = context.at } in s) (labels_is ∙ of.labels_are)
    ∙ ap (λ x. let s : Site = record { labels = labels_of lines; target = x; at = context.at } in s) target
    ∙ ap (λ n. let s : Site = record { labels = labels_of lines; target = target_of (words_of lines) (map pos (word_addresses lines)) (open_position (take k lines)) l.statement; at = n } in s) at

-- the fault of a line by its own
pub own_here : (lines : List Line) (labels : List Label) (addresses : List ℤ) (targets : List (Option ℤ)) (k : ℕ) (l : Line) (context : Context) (made : Option (Result Insn OperandFault)) (d : ℤ) (t : Option ℤ) →
    AreOf lines (words_of lines) labels addresses targets → k < length lines → l ≡ get_or lines k l → context.labels.now ≡ labels → context.target ≡ get_or targets k t → pos context.at ≡ get_or addresses k d →
    made ≡ insn_at (site_of context) l.statement → own_fault (site_of context) l made ≡ own_at lines (take k lines) l (drop (k + 1) lines)
own_here lines labels addresses targets k l context made d t of lt is labels_is target_is at_is made_is =
    ap (λ m. own_fault (site_of context) l m) made_is
    ∙ ap (λ s. own_fault s l (insn_at s l.statement)) (site_here lines (words_of lines) labels addresses targets k l context d t of lt is labels_is target_is at_is)

pub source_here : (lines : List Line) (k : ℕ) (l : Line) (context : Context) (pool : List PoolWord) → k < length lines → l ≡ get_or lines k l → site_of context ≡ site_at lines (take k lines) l →
    pool ≡ pool_at (take k lines) l (drop (k + 1) lines) → piece_source context pool l.statement ≡ source_at lines (take k lines) l (drop (k + 1) lines)
source_here lines k l context pool lt is site pool_is =
    let before : List Line = take k lines in
    let here : List PoolWord = pool_at before l (drop (k + 1) lines) in
    ap (λ s. let x : Source = record { site = s; pool = pool; pool_size = length pool; statement = l.statement } in x) site
    ∙ ap (λ p. let x : Source = record { site = site_at lines before l; pool = p; pool_size = length p; statement = l.statement } in x) pool_is
    ∙ ap (λ n. let x : Source = record { site = site_at lines before l; pool = here; pool_size = n; statement = l.statement } in x)
    (sym (pool_long lines k l lt is) ∙ ap (λ n. pool_size (words_of lines) n) (sym (length-take-le k lines (omega arith))))

-- ---- pieces

pieces_push : (sources : List Source) (pieces : List (List ℕ)) (s : Source) (piece : List ℕ) → ArePieces sources pieces → IsPiece s piece → ArePieces (sources ++ s ∷ []) (pieces ++ piece ∷ [])
pieces_push [] [] s piece all is = (is, tt)
pieces_push [] (x ∷ pieces) s piece all is = absurd all
pieces_push (x ∷ sources) [] s piece all is = absurd all
pieces_push (x ∷ sources) (y ∷ pieces) s piece all is = (all.0, pieces_push sources pieces s piece all.1 is)

sources_more : (lines : List Line) (k : ℕ) (l : Line) → k < length lines → l ≡ get_or lines k l → take (k + 1) (sources_of lines) ≡ take k (sources_of lines) ++ source_at lines (take k lines) l (drop (k + 1) lines) ∷ []
sources_more lines k l lt is =
    let s : Source = source_at lines (take k lines) l (drop (k + 1) lines) in
    let within : k < length (sources_of lines) = omega (arith, length-each (source_at lines) lines) in
    take_more (sources_of lines) k s within ∙ ap (λ x. take k (sources_of lines) ++ x ∷ []) (each_at (source_at lines) lines k s l lt is)

-- ---- what is known after k lines

pub record Walks (lines : List Line) (k : ℕ) (rest : List PoolWord) (pieces : List (List ℕ)) : Type 0 where
  pub rest_is : rest ≡ words_behind (take k lines) (drop k lines)
  pub short : All IsShortWord rest
  pub pieces_are : ArePieces (take k (sources_of lines)) pieces
  pub clear : Finds (own_at lines) k lines (own_first lines)

none_made : (pieces : List (List ℕ)) → pieces ≡ [] → ArePieces [] pieces
none_made pieces e = let P : List (List ℕ) → Type 0 = λ ps. ArePieces [] ps in subst P (sym e) tt

pub walks_none : (lines : List Line) (words : List PoolWord) (labels : List Label) (addresses : List ℤ) (targets : List (Option ℤ)) (pieces : List (List ℕ)) → AreOf lines words labels addresses targets → pieces ≡ [] →
    Walks lines 0 words pieces
walks_none lines words labels addresses targets pieces of none =
    let P : List PoolWord → Type 0 = λ ws. All IsShortWord ws in
    record {
      rest_is = of.words_are ∙ all_behind lines;
      short = subst P (sym of.words_are) (words_short lines of.short);
      pieces_are = none_made pieces none;
      clear = refl;
    }

pub walks_all : (lines : List Line) (k : ℕ) (rest : List PoolWord) (pieces : List (List ℕ)) → length lines ≤ k → Walks lines k rest pieces → ArePieces (sources_of lines) pieces
walks_all lines k rest pieces le walks =
    let P : List Source → Type 0 = λ ss. ArePieces ss pieces in
    subst P (take_all k (sources_of lines) (omega (arith, length-each (source_at lines) lines))) walks.pieces_are

pub walks_more : (lines : List Line) (k : ℕ) (l : Line) (rest behind : List PoolWord) (n : ℕ) (pieces pieces' : List (List ℕ)) (piece : List ℕ) (context : Context) (pool : List PoolWord) →
    k < length lines → l ≡ get_or lines k l → Walks lines k rest pieces → site_of context ≡ site_at lines (take k lines) l →
    n ≡ prefix_len (λ w. eqb k w.position) rest → pool ≡ take n rest → behind ≡ drop n rest →
    IsPiece (piece_source context pool l.statement) piece → own_fault (site_of context) l (insn_at (site_of context) l.statement) ≡ None →
    pieces' ≡ pieces ++ piece ∷ [] → Walks lines (k + 1) behind pieces'
walks_more lines k l rest behind n pieces pieces' piece context pool lt is walks site n_is pool_is behind_is piece_is none adds =
    let parts : Cut lines k l rest n = cut lines k l rest n lt is walks.rest_is n_is in
    let P : Source → Type 0 = λ s. IsPiece s piece in
    let Q : List Source → Type 0 = λ ss. ArePieces ss (pieces ++ piece ∷ []) in
    let R : List (List ℕ) → Type 0 = λ ps. ArePieces (take (k + 1) (sources_of lines)) ps in
    let S : List PoolWord → Type 0 = λ ws. All IsShortWord ws in
    let source : piece_source context pool l.statement ≡ source_at lines (take k lines) l (drop (k + 1) lines) = source_here lines k l context pool lt is site (pool_is ∙ parts.pool_is) in
    record {
      rest_is = behind_is ∙ parts.behind_is;
      short = subst S (sym behind_is) (All-drop IsShortWord n rest walks.short);
      pieces_are = subst R (sym adds) (subst Q (sym (sources_more lines k l lt is)) (pieces_push (take k (sources_of lines)) pieces (source_at lines (take k lines) l (drop (k + 1) lines)) piece walks.pieces_are (subst P source piece_is)));
      clear = finds_more (own_at lines) k lines l (own_first lines) lt is walks.clear (sym (ap (λ s. own_fault s l (insn_at s l.statement)) (sym site) ∙ none));
    }

pub fault_here : (lines : List Line) (k : ℕ) (l : Line) (rest : List PoolWord) (pieces : List (List ℕ)) (context : Context) (e : AsmFault) → k < length lines → l ≡ get_or lines k l → Walks lines k rest pieces →
    site_of context ≡ site_at lines (take k lines) l → LineFault e (own_fault (site_of context) l (insn_at (site_of context) l.statement)) → LineFault e (own_first lines)
fault_here lines k l rest pieces context (fault.Place place) lt is walks site found =
    sym (finds_here (own_at lines) k lines l (own_first lines) place lt is walks.clear (sym (ap (λ s. own_fault s l (insn_at s l.statement)) (sym site) ∙ found)))
fault_here lines k l rest pieces context fault.Memory lt is walks site found = tt
