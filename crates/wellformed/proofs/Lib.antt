-- Where the search for a node like another may begin.
mod Last
