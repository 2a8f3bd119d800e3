-- The search for the text under a name, from one text to the next.
use Rattle.std.proofs.Common.{◌≡◌, ℕ, ◌+◌, ◌<◌, ◌≤◌, List, length, get_or, drop, ap, sym, ◌∙◌, Bool, true, false}
use Rattle.std.proofs.lemmas.List.{drop_more}
use Rattle.std.specs.Prelude.{None, Some, if◌then◌else◌}
use Rattle.std.specs.Str.{bytes_eq}
use Rattle.edge_io.specs.declared.mem_shelf.Labelled.{Labelled}
use Rattle.edge_io.specs.MemShelves.{text_under}
use Rattle.edge_io.proofs.Pieces.{nothing_left_of}

first_of : (held : List Labelled) (name : List ℕ) (i : ℕ) (label : Labelled) → i < length held → label ≡ get_or held i label →
    text_under (drop i held) name ≡ (if bytes_eq label.name name then Some label.text else text_under (drop (i + 1) held) name)
first_of held name i label h e = ap (λ ls. text_under ls name) (drop_more held i label h)
    ∙ ap (λ (l : Labelled). if bytes_eq l.name name then Some l.text else text_under (drop (i + 1) held) name) (sym e)

pub found_here : (held : List Labelled) (name : List ℕ) (i : ℕ) (label : Labelled) → i < length held → label ≡ get_or held i label →
    bytes_eq label.name name ≡ true → text_under (drop i held) name ≡ Some label.text
found_here held name i label h e b = first_of held name i label h e
    ∙ ap (λ (c : Bool). if c then Some label.text else text_under (drop (i + 1) held) name) b

pub not_here : (held : List Labelled) (name : List ℕ) (i : ℕ) (label : Labelled) → i < length held → label ≡ get_or held i label →
    bytes_eq label.name name ≡ false → text_under (drop i held) name ≡ text_under (drop (i + 1) held) name
not_here held name i label h e b = first_of held name i label h e
    ∙ ap (λ (c : Bool). if c then Some label.text else text_under (drop (i + 1) held) name) b

pub none_left : (held : List Labelled) (name : List ℕ) (i : ℕ) → length held ≤ i → text_under (drop i held) name ≡ None
none_left held name i h = ap (λ ls. text_under ls name) (nothing_left_of held i h)
