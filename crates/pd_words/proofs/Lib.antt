mod Letters
mod Mapped
mod ReadWords
mod TypedWords
