-- Words of definitions that the language's own list of them lacks: all others come from its Prelude.
pub use Rattle.std.specs.Bool.{beq as bool_eq}
pub use Prim.Native.Char.{code}
