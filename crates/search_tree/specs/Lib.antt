pub use Rattle.search_tries.specs.Tries
pub use Rattle.search_tries.specs.declared.Below
